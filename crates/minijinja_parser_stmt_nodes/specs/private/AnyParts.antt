-- The trees of statements that are made of parts.
use Rattle.minijinja_syntax.specs.Texts.{Text}
use Rattle.minijinja_syntax.specs.declared.tokens.Span.{Span}
use Rattle.minijinja_tree.specs.SpannedTrees as tree
use Rattle.minijinja_tree.specs.SpannedTrees.{Expr, Stmt}
use Rattle.minijinja_parser_stmt.specs.internal.Made.{HasParts, statement_tree}
use Rattle.minijinja_parser_stmt_nodes.specs.declared.tree_stmts.AnyParts.{AnyParts}
use Rattle.minijinja_parser_stmt_nodes.specs.declared.tree_stmts.AnyParts.TheVariants as parts

-- the statement of these parts (no `abbrev`, for the reason that `statement_tree` is none)
unfoldable pub parts_tree : {N E S C : Type 0} → (N → Text) → (E → Expr C) → (S → Stmt C) → AnyParts N E S → Span → Stmt C
parts_tree text of stmt (parts.Data x) s = tree.data_text (text x) s
parts_tree text of stmt (parts.Output e) s = tree.output (of e) s
parts_tree text of stmt (parts.Other p) s = statement_tree text of stmt p s

-- whether these are all the parts that the statement needs
unfoldable pub AreComplete : {N E S C : Type 0} → (E → Expr C) → AnyParts N E S → Type 0
AreComplete of (parts.Data x) = Unit {0}
AreComplete of (parts.Output e) = Unit {0}
AreComplete of (parts.Other p) = HasParts of p
