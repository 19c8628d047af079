-- One postfix or suffix, which comes next.
use Rattle.std.specs.Prelude.{ℕ, Some}
use Rattle.minijinja_syntax.specs.Tokens.{int, int128}
use Rattle.minijinja_syntax.specs.Streams.{SpannedTok}
use Rattle.minijinja_syntax.specs.declared.tokens.Span.{Span}
use Rattle.minijinja_value.specs.Values.{Functions}
use Rattle.minijinja_tree.specs.SpannedTrees.{Expr, constant, item}
use Rattle.minijinja_grammar.specs.Places.{Place}
use Rattle.minijinja_grammar.specs.internal.Forms.{Read, got, wrong, one, read_then, reads}
use Rattle.minijinja_grammar.specs.internal.ExprForms.{below, expanded, expr_at, postfix, suffix}

module _ {C F : Type 0} (f : Functions C F) (depth : ℕ) where
  -- after an operand, where the node that it makes begins at the span
  abbrev pub postfix_at : Expr C → (from : Span) → Place → Read (Expr C)
  postfix_at e from p = read_then (reads (one Some) p) (λ t q. reads (postfix (expr_at f depth) f e from t.0) q)

  -- after an operand
  abbrev pub suffix_at : Expr C → Place → Read (Expr C)
  suffix_at e p = read_then (reads (one Some) p) (λ t q. reads (suffix f (below f depth) e t.0) q)

module _ {C F : Type 0} (f : Functions C F) where
  -- the item that a number names, after an operand and the `.` behind it
  abbrev pub item_of : Expr C → (from : Span) → SpannedTok → Place → Read (Expr C)
  item_of e from (int n, s) q = got (item e (constant (f.of_u64 n) s) (expanded from q.last)) q
  item_of e from (int128 n, s) q = got (item e (constant (f.of_u128 n) s) (expanded from q.last)) q
  item_of e from _ q = wrong q

  -- the number comes next
  abbrev pub item_at : Expr C → (from : Span) → Place → Read (Expr C)
  item_at e from p = read_then (reads (one Some) p) (item_of e from)
