use Rattle.std.proofs.Common.{refl, arith}
use Rattle.std.proofs.lemmas.Str.{IsCharBoundary-start}
use Rattle.minijinja_lexer.proofs.cursor.Cursor.new.Goals as goal

pub invariant_of-result : goal.invariant_of-result
invariant_of-result c = record {
  short = c.requires;
  boundary = IsCharBoundary-start c.args.text.now c.utf8.text;
  line = refl;
  origin = omega arith;
  column = refl;
  ahead = omega arith;
  plain = λ k a b. absurd (omega (arith, a, b));
  exact = omega arith;
  counted = omega arith;
}
