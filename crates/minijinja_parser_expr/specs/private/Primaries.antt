-- A primary, and those in which no expression is nested.
use Rattle.std.specs.Prelude.{ℕ, Bool, true, false, ◌||◌}
use Rattle.minijinja_value.specs.Values.{Functions}
use Rattle.minijinja_tree.specs.SpannedTrees.{Expr}
use Rattle.minijinja_syntax.specs.Tokens.{Tok, int, int128, str, string}
use Rattle.minijinja_grammar.specs.Words.{is_identifier}
use Rattle.minijinja_grammar.specs.internal.Forms.{Form, nothing, one, ◌>>=◌}
use Rattle.minijinja_grammar.specs.internal.ExprForms.{of_kind, begun, below}

abbrev pub primary_at : {C F : Type 0} → Functions C F → ℕ → Form (Expr C)
primary_at f depth = (below f depth).primary

-- a number or a text
abbrev pub begins_literal : Tok → Bool
begins_literal (str t) = true
begins_literal (string t) = true
begins_literal (int n) = true
begins_literal (int128 n) = true
begins_literal _ = false

abbrev pub literal : {C F : Type 0} → Functions C F → Form (Expr C)
literal f = one (of_kind begins_literal) >>= begun nothing f

-- a primary in which none is nested: a name, a number or a text
abbrev pub atom : {C F : Type 0} → Functions C F → Form (Expr C)
atom f = one (of_kind (λ t. is_identifier t || begins_literal t)) >>= begun nothing f
