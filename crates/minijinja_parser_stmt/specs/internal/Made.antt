-- The statements and targets of the grammar that are made of parts, and what tokens hold.
use Rattle.std.specs.Prelude.{◌≡◌, Bool, true, false, ◌&&◌, List, map, codes, Option, Some, None, is_some, if◌then◌else◌}
use Rattle.std.specs.Option.{option_map}
use Rattle.minijinja_syntax.specs.Texts.{Text}
use Rattle.minijinja_syntax.specs.Tokens.{Tok, template_data, variable_start, block_start}
use Rattle.minijinja_syntax.specs.declared.tokens.Span.{Span}
use Rattle.minijinja_tree.specs.SpannedTrees as tree
use Rattle.minijinja_tree.specs.SpannedTrees.{Args, Expr, Macro, Optional, Stmt, exprs_of, macro_of, optional_of, stmts_of}
use Rattle.minijinja_grammar.specs.internal.StmtForms.{call_of}
use Rattle.minijinja_parser_stmt.specs.declared.builder.Kind.{Kind}
use Rattle.minijinja_parser_stmt.specs.declared.builder.Kind.TheVariants as kind
use Rattle.minijinja_parser_stmt.specs.declared.builder.StatementParts.{StatementParts}
use Rattle.minijinja_parser_stmt.specs.declared.builder.Opening.{Opening}
use Rattle.minijinja_parser_stmt.specs.declared.builder.Opening.TheVariants as opening
use Rattle.minijinja_parser_stmt.specs.declared.builder.Target.{Target}
use Rattle.minijinja_parser_stmt.specs.declared.builder.Target.TheVariants as target

-- whether a part of a template begins with the token
abbrev pub begins_part : Tok → Bool
begins_part (template_data t) = true
begins_part variable_start = true
begins_part block_start = true
begins_part _ = false

-- the token, if it begins a part of a template
abbrev pub opening_of : Tok → Option Tok
opening_of t = if begins_part t then Some t else None

-- the token that begins the part
abbrev pub opening_tok : {N : Type 0} → (N → Text) → Opening N → Tok
opening_tok text (opening.Data x) = template_data (text x)
opening_tok text opening.Output = variable_start
opening_tok text opening.Statement = block_start

abbrev pub target_tree : {N E C : Type 0} → (N → Text) → (E → Expr C) → Target N E → Span → Expr C
target_tree text of (target.Name x) s = tree.variable (text x) s
target_tree text of (target.Attribute e x) s = tree.attribute (of e) (text x) s
target_tree text of (target.List es) s = tree.list (exprs_of (map of es.items)) s

-- a target and its value
abbrev pub binding_of : {E C : Type 0} → (E → Expr C) → E × E → Expr C × Expr C
binding_of of b = (of b.0, of b.1)

-- an argument of a macro, and its default
abbrev pub param_of : {E C : Type 0} → (E → Expr C) → E × Option E → Expr C × Option (Expr C)
param_of of n = (of n.0, option_map of n.1)

-- a name that is taken from a template, and its alias
abbrev pub name_of : {E C : Type 0} → (E → Expr C) → E × Option E → Expr C × Optional C
name_of of n = (of n.0, optional_of (option_map of n.1))

-- names, each with its alias
abbrev pub with_aliases : {C : Type 0} → List (Expr C × Option (Expr C)) → List (Expr C × Optional C)
with_aliases ns = map (λ n. (n.0, optional_of n.1)) ns

-- the statement that drops the answer of a call
abbrev pub call_tree : {C : Type 0} → Option (Expr C × Args C × Span) → Span → Stmt C
call_tree None s = tree.break_loop s
call_tree (Some c) s = tree.do_call c.0 c.1 c.2 s

-- the statement that outputs a call, which takes the macro along
abbrev pub call_block_tree : {C : Type 0} → Option (Expr C × Args C × Span) → Macro C → Span → Stmt C
call_block_tree None m s = tree.break_loop s
call_block_tree (Some c) m s = tree.call_block c.0 c.1 c.2 m s

-- whether it is an expression that is a call
abbrev pub is_call : {E C : Type 0} → (E → Expr C) → Option E → Bool
is_call of None = false
is_call of (Some e) = is_some (call_of (of e))

-- whether a statement of the kind has what it needs of a name, a target, an expression, and an
-- expression that is a call
abbrev pub has_parts : Kind → (name target expr call : Bool) → Bool
has_parts kind.Set x t e c = t && e
has_parts kind.For x t e c = t && e
has_parts kind.If x t e c = e
has_parts kind.SetBlock x t e c = t
has_parts kind.AutoEscape x t e c = e
has_parts kind.FilterBlock x t e c = e
has_parts kind.Block x t e c = x
has_parts kind.Extends x t e c = e
has_parts kind.Include x t e c = e
has_parts kind.Import x t e c = t && e
has_parts kind.FromImport x t e c = e
has_parts kind.Macro x t e c = x
has_parts kind.CallBlock x t e c = c
has_parts kind.Do x t e c = c
has_parts _ x t e c = true

-- the parts that a statement of their kind needs are there (no `abbrev`, for the reason that
-- `statement_tree` is none)
unfoldable pub HasParts : {N E S C : Type 0} → (E → Expr C) → StatementParts N E S → Type 0
HasParts of p = has_parts p.kind (is_some p.name) (is_some p.target) (is_some p.expr) (is_call of p.expr) ≡ true

-- the statement of a kind, of its parts
abbrev pub tree_of : {C : Type 0} → Kind → Option Text → (target expr filter : Option (Expr C)) → List (Expr C × Expr C) → List (Expr C × Option (Expr C)) → (body other : List (Stmt C)) → (recursive required ignore_missing : Bool) → Span → Stmt C
tree_of kind.Set x (Some t) (Some e) f bs ns b o r q m s = tree.assignment t e s
tree_of kind.Template x t e f bs ns b o r q m s = tree.template (stmts_of b) s
tree_of kind.For x (Some t) (Some e) f bs ns b o r q m s = tree.for_loop t e (optional_of f) r (stmts_of b) (stmts_of o) s
tree_of kind.If x t (Some e) f bs ns b o r q m s = tree.if_cond e (stmts_of b) (stmts_of o) s
tree_of kind.With x t e f bs ns b o r q m s = tree.with_block bs (stmts_of b) s
tree_of kind.SetBlock x (Some t) e f bs ns b o r q m s = tree.set_block t (optional_of f) (stmts_of b) s
tree_of kind.AutoEscape x t (Some e) f bs ns b o r q m s = tree.auto_escape e (stmts_of b) s
tree_of kind.FilterBlock x t (Some e) f bs ns b o r q m s = tree.filter_block e (stmts_of b) s
tree_of kind.Block (Some x) t e f bs ns b o r q m s = tree.named_block x q (stmts_of b) s
tree_of kind.Extends x t (Some e) f bs ns b o r q m s = tree.extends e s
tree_of kind.Include x t (Some e) f bs ns b o r q m s = tree.include e m s
tree_of kind.Import x (Some t) (Some e) f bs ns b o r q m s = tree.import_all e t s
tree_of kind.FromImport x t (Some e) f bs ns b o r q m s = tree.from_import e (with_aliases ns) s
tree_of kind.Macro (Some x) t e f bs ns b o r q m s = tree.declare (macro_of x ns b s)
tree_of kind.CallBlock x t (Some e) f bs ns b o r q m s = call_block_tree (call_of e) (macro_of (codes "caller") ns b s) s
tree_of kind.Do x t (Some e) f bs ns b o r q m s = call_tree (call_of e) s
tree_of kind.Continue x t e f bs ns b o r q m s = tree.continue_loop s
tree_of _ x t e f bs ns b o r q m s = tree.break_loop s

-- the statement of these parts (no `abbrev`: where the rules are called for one type, the prover
-- compares two of these by their arguments)
unfoldable pub statement_tree : {N E S C : Type 0} → (N → Text) → (E → Expr C) → (S → Stmt C) → StatementParts N E S → Span → Stmt C
statement_tree text of stmt p s =
    tree_of p.kind (option_map text p.name) (option_map of p.target) (option_map of p.expr) (option_map of p.filter) (map (binding_of of) p.assignments.items)
    (map (param_of of) p.names.items) (map stmt p.body.items) (map stmt p.else_body.items) p.recursive p.required p.ignore_missing s
