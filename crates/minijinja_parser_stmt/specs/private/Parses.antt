-- What a rule returns, and what a function value does that parses nested statements.
use Rattle.std.specs.Prelude.{ℕ, ◌≤◌, Result}
use denote.Ref.{MutBor}
use Rattle.minijinja_value.specs.Values.{Functions}
use Rattle.minijinja_tree.specs.SpannedTrees.{Stmt}
use Rattle.minijinja_grammar.specs.internal.Forms.{Form, reads}
use Rattle.minijinja_grammar.specs.Places.{Place}
use Rattle.minijinja_grammar.specs.Statements as grammar
use Rattle.minijinja_grammar.specs.internal.StmtForms.{stmt_at, within}
use Rattle.minijinja_syntax.specs.declared.tokens.Span.{Span}
use Rattle.minijinja_parser_tokens.specs.internal.Reads.{Reads}
use Rattle.minijinja_parser_tokens.specs.declared.refusal.Refusal.{Refusal}
use Rattle.minijinja_parser_stmt.specs.declared.rules.Context.{Context}
use Rattle.minijinja_parser_stmt.specs.declared.rules.Nested.{Nested}
use Rattle.minijinja_parser_stmt.specs.declared.rules.Nested.TheVariants as nested

-- what reading the form from some tokens comes to, and which are left then
abbrev pub Parses : {T A X : Type 0} → (T → Place) → (X → A) → Form A → T → Result X Refusal → T → Type 0
Parses place view form old result new = Reads view (reads form (place old)) result (place new)

-- where statements stand
abbrev pub context_of : Context → grammar.Context
context_of c = record { in_loop = c.in_loop; in_macro = c.in_macro }

-- what nests with a depth of at most the number, after a token that stands there
abbrev pub nested_at : {C F : Type 0} → Functions C F → grammar.Context → Nested → ℕ → Span → Form (Stmt C)
nested_at f c nested.Statement d last = stmt_at f c d
nested_at f c nested.ElseIf d last = (within f d).if_ c last

-- called with any depth up to this, it parses what nests with that depth, wherever it stands
pub record Nests {N T X M C F P : Type 0} (place : T → Place) (stmt : X → Stmt C) (f : Functions C F) (depth : ℕ)
    (pre : P → N → MutBor T → M → Context → Nested → ℕ → Type 0) (post : P → N → MutBor T → M → Context → Nested → ℕ → Result X Refusal → MutBor T → Type 0) (parser : P) : Type 0 where
  pub callable : (nodes : N) (old : MutBor T) (made : M) (c : Context) (n : Nested) (d : ℕ) → d ≤ depth → pre parser nodes old made c n d
  pub reads : (nodes : N) (old new : MutBor T) (made : M) (c : Context) (n : Nested) (d : ℕ) (r : Result X Refusal) → d ≤ depth →
      post parser nodes old made c n d r new → Parses place stmt (nested_at f (context_of c) n d (place old.now).last) old.now r new.now
