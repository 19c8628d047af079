use Rattle.std.proofs.Common.{sym, ◌∙◌, arith}
use Rattle.std.proofs.lemmas.Str.{IsCharBoundary-end}
use Rattle.minijinja_lexer.proofs.OutsideSteps.{found_end, found_ahead, found_now, kept_at_end}
use Rattle.minijinja_lexer.proofs.outside.found_at.Goals as goal

pub returns-in_default : goal.returns-in_default
returns-in_default c = record {
  is = record {
    segment = found_end c.args.syntax.now c.args.text.now c.args.at c.requires.within (sym c.in_default.is ∙ c.find_marker.ensures.value);
    moves = c.requires.within;
    boundary = IsCharBoundary-end c.args.text.now;
  };
  kept_is = kept_at_end c.args.syntax.now c.args.text.now c.args.at;
  onwards = omega (arith, c.requires.within);
  within = omega arith;
  boundary = IsCharBoundary-end c.args.text.now;
}

pub marked_at-requires-clause-marker : goal.marked_at-requires-clause-marker
marked_at-requires-clause-marker c = (found_now c.args.syntax.now c.args.text.now c.args.at c.in-Some.ahead c.in-Some.len c.in-Some.marker (omega (arith, c.requires.within)) (sym c.in-Some.is ∙ c.find_marker.ensures.value) c.if-ahead-eq0.true).0

pub returns : goal.returns
returns c =
    let ahead = found_ahead c.args.syntax.now c.args.text.now c.args.at c.in-Some.ahead c.in-Some.len c.in-Some.marker (omega (arith, c.requires.within)) (sym c.in-Some.is ∙ c.find_marker.ensures.value) c.if-ahead-eq0.false in
    let w = c.kept_stop.ensures.within in
    record {
      is = record {
        segment = ahead.0;
        moves = omega (arith, c.if-ahead-eq0.false);
        boundary = c.in-Some.ensures.place.start;
      };
      kept_is = c.kept_stop.ensures.value;
      onwards = w.0;
      within = w.1;
      boundary = c.kept_stop.ensures.boundary;
    }
