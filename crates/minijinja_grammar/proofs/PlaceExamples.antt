-- Where the nodes of a few texts stand, by the rules alone.
use Rattle.std.proofs.Common.{◌≡◌, ℕ, suc, false, List, None, refl}
use Rattle.minijinja_syntax.specs.Texts.{Text}
use Rattle.minijinja_syntax.specs.Streams.{SpannedTok}
use Rattle.minijinja_syntax.specs.Tokens.{pow}
use Rattle.minijinja_value.specs.Values.{Functions}
use Rattle.minijinja_tree.specs.Tree.{Expr}
use Rattle.minijinja_grammar.specs.Words.{is, if_word, not_word, begins_postfix, begins_suffix, begins_comparison}
use Rattle.minijinja_grammar.specs.Ahead.{comes, held_next, held, one_token, or_level, and_level, sum_level, cat_level, term_level, operator}
use Rattle.minijinja_grammar.specs.Expressions.{IsExpr, expr, cond, no_if, if_alone, IsLevel, level, no_operator, side_of_or, side_of_and, side_of_sum, side_of_cat, side_of_term, no_not, IsCmp, comparison, no_comparison, compared_to, no_power, suffixed, no_suffix, IsPostfixed, no_minus, no_postfix, dot_ident, subscript, name}
use Rattle.minijinja_grammar.specs.Statements.{text_end, data_part, output_part}
use Rattle.minijinja_grammar.specs.Derived.{template_tree}
use Rattle.minijinja_grammar.specs.PlaceExamples.{PlaceExamples}

module _ {C F : Type 0} (f : Functions C F) (src : Text) where
  -- the tokens that follow go on with no operator that is stronger than a comparison
  abbrev sum : {d : ℕ} {ts rest : List SpannedTok} {e : Expr C} → IsPostfixed f src d ts rest e → comes begins_postfix rest ≡ false → comes begins_suffix rest ≡ false → comes (is pow) rest ≡ false →
      held_next (held (operator term_level)) rest ≡ None → held_next (held (operator cat_level)) rest ≡ None → held_next (held (operator sum_level)) rest ≡ None → IsLevel f src sum_level d ts rest e
  sum a p s w t c n = level (no_operator (side_of_sum (level (no_operator (side_of_cat (level (no_operator (side_of_term (no_power (suffixed (no_suffix (no_minus a p)) s) w))) t))) c))) n

  abbrev or : {d : ℕ} {ts rest : List SpannedTok} {e : Expr C} → IsCmp f src d ts rest e → comes (is not_word) ts ≡ false → held_next (held (operator and_level)) rest ≡ None →
      held_next (held (operator or_level)) rest ≡ None → IsLevel f src or_level d ts rest e
  or a n j k = level (no_operator (side_of_or (level (no_operator (side_of_and (no_not n a))) j))) k

  abbrev operand_of_or : {d : ℕ} {ts rest : List SpannedTok} {e : Expr C} → IsPostfixed f src d ts rest e → comes (is not_word) ts ≡ false → comes begins_postfix rest ≡ false →
      comes begins_suffix rest ≡ false → comes (is pow) rest ≡ false → held_next (held (operator term_level)) rest ≡ None → held_next (held (operator cat_level)) rest ≡ None →
      held_next (held (operator sum_level)) rest ≡ None → comes begins_comparison rest ≡ false → held_next (held (operator and_level)) rest ≡ None → held_next (held (operator or_level)) rest ≡ None →
      IsLevel f src or_level d ts rest e
  operand_of_or a n p s w t c m q j k = or (comparison (sum a p s w t c m) (no_comparison q)) n j k

  abbrev whole : {d : ℕ} {ts rest : List SpannedTok} {e : Expr C} → IsLevel f src or_level d ts rest e → comes (is if_word) rest ≡ false → IsExpr f src (suc d) ts rest e
  whole a i = expr (cond (no_if a) i)

-- `PlaceExamples` of the specifications
pub places_shown : {C F : Type 0} (f : Functions C F) → PlaceExamples f
places_shown f = record {
  equal_variables = λ src o a b c d e g. record {
    derivation = template_tree refl (output_part (whole f src (operand_of_or f src (no_postfix (name refl)) refl refl refl refl refl refl refl refl refl refl) refl)
        (output_part (whole f src (operand_of_or f src (no_postfix (name refl)) refl refl refl refl refl refl refl refl refl refl) refl) text_end)) refl refl;
    spans = refl;
  };
  equal_data = λ src o a b. record { derivation = template_tree refl (data_part (data_part text_end)) refl refl; spans = refl };
  postfixes = λ src o a b c d e g. record {
    derivation = record {
      unrefused = refl;
      derived = whole f src (operand_of_or f src (subscript (dot_ident (no_postfix (name refl)))
          (whole f src (operand_of_or f src (no_postfix (name refl)) refl refl refl refl refl refl refl refl refl refl) refl)) refl refl refl refl refl refl refl refl refl refl) refl;
    };
    spans = refl;
  };
  comparison_and_if = λ src o a b c d e. record {
    derivation = record {
      unrefused = refl;
      derived = expr (cond (if_alone (no_if (or f src (comparison (sum f src (no_postfix (name refl)) refl refl refl refl refl refl)
          (compared_to (one_token refl) (sum f src (no_postfix (name refl)) refl refl refl refl refl refl) (no_comparison refl))) refl refl refl))
          (operand_of_or f src (no_postfix (name refl)) refl refl refl refl refl refl refl refl refl refl) refl) refl);
    };
    spans = refl;
  };
}
