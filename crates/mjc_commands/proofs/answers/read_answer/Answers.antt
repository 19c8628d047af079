-- The word is read as it is; a list of constants is one by what was parsed.
use Rattle.std.proofs.Common.{inl, inr, ◌≤◌, ◌<◌, ◌^◌, ap, codes, length, map, sym, ◌∙◌}
use Rattle.std.specs.Prelude.{◌⊎◌}
use Rattle.std.specs.Option.{option_map}
use Rattle.std.proofs.lemmas.Bool.{cases_lt}
use Rattle.std.proofs.lemmas.Slice.Eq.{bytes_eq-Decides}
use Rattle.minijinja_value.specs.ValueViews.{contents_of}
use Rattle.minijinja_parser.specs.Answers.{IsShort}
use Rattle.mjc_commands.specs.AnswerFile.{fault, listed_constants, values}
use Rattle.mjc_commands.proofs.AnswerLines.{says_none}
use Rattle.mjc_commands.proofs.answers.read_answer.Goals as goal

pub returns-then-eq-clause-some : goal.returns-then-eq-clause-some
returns-then-eq-clause-some c = fault ((bytes_eq-Decides c.args.line.now (codes "fault")).0 (sym c.eq.ensures ∙ c.if-eq.true))

pub returns-in-Some-clause-some : goal.returns-in-Some-clause-some
returns-in-Some-clause-some c =
    let listed = sym c.in_ok-values-in-Ok.ensures ∙ ap (option_map (λ v. map contents_of v.items)) c.in-Some.is in
    values _ _ (short (cases_lt (length c.args.line.now) (2 ^ 32))) c.in-Ok.ensures.found listed
  where
    short : (length c.args.line.now < 2 ^ 32) ⊎ (2 ^ 32 ≤ length c.args.line.now) → IsShort c.args.line.now
    short (inl less) = less
    short (inr long) = absurd (c.in-Ok.ensures.too_long long)

-- what was parsed is the only expression, and no list of constants
pub returns-in-Ok-clause-none : goal.returns-in-Ok-clause-none
returns-in-Ok-clause-none c = λ none a.
    says_none c.args.line.now
    (λ e.
    let is = (bytes_eq-Decides c.args.line.now (codes "fault")).1 e in
    let is_not = sym c.eq.ensures ∙ c.if-eq.false in
    cc)
    (λ e vs short derived listed.
    let same = c.in-Ok.ensures.only e derived in
    let unlisted = sym listed ∙ ap listed_constants (sym same) ∙ sym c.in_ok-values-in-Ok.ensures ∙ ap (option_map (λ v. map contents_of v.items)) c.in-None.is in
    cc) a
