-- What the parts of a linter find is what it is to find.
use Rattle.std.proofs.Common.{◌≡◌, ap, ◌∙◌, subst}
use Rattle.std.specs.Prelude.{Bool, List}
use Rattle.minijinja_syntax.specs.Texts.{Text}
use Rattle.minijinja_syntax.specs.declared.tokens.Span.{Span}
use Rattle.minijinja_meta.specs.Mentions.{Mention, Way, declared, free_of, occurrences}
use Rattle.minijinja_meta.specs.Occurrences.{macros_of}
use Rattle.minijinja_lint.specs.Findings.{AreFindings, IsByStart, Remark, remarks_of, spans_of, unused_macros}
use Rattle.minijinja_lint.specs.private.First.{ByName, IsOrdered, at, first_of}
use Rattle.minijinja_lint.proofs.Firsts.{firsts-are, names-are}

module _ (w : Way) (os : List (Mention × Bool)) (ds : List (Text × Span)) (all : os ≡ occurrences w) (macros : ds ≡ declared w) where
  pub are-findings : (m : ByName) → IsOrdered m → ((x : Text) → at x m ≡ first_of (spans_of x (free_of os))) → (unused : List (Text × Span)) → IsByStart (unused_macros os ds) unused →
      (rs : List Remark) → rs ≡ remarks_of (macros_of m.entries) unused → AreFindings w rs
  are-findings m ordered firsts unused sorted rs are =
      let now : (x : Text) → at x m ≡ first_of (spans_of x (free_of (occurrences w))) = λ x. firsts x ∙ ap (λ os. first_of (spans_of x (free_of os))) all in
      record {
        needed = macros_of m.entries;
        unused = unused;
        are = are;
        names = names-are (free_of (occurrences w)) m ordered now;
        first = firsts-are (free_of (occurrences w)) m ordered now;
        macros = subst (λ os. IsByStart (unused_macros os (declared w)) unused) all (subst (λ ds. IsByStart (unused_macros os ds) unused) macros sorted);
      }
