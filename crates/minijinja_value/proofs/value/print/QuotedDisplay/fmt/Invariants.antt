use Rattle.std.proofs.Common.{◌≡◌, ◌∷◌, ◌≤◌, take}
use Rattle.std.specs.Fmt.{HasWritten, IsPlainFormatter}
use Rattle.std.specs.List.{flat_map}
use Rattle.std.specs.Str.{IsCharBoundary}
use Rattle.minijinja_text.specs.Quotes.{escaped, quote_mark}
use Rattle.minijinja_value.proofs.Quotes.{ArePlain}
use Rattle.minijinja_value.proofs.value.print.QuotedDisplay.fmt.Given as goal

abbrev pub invariant-loop-at : goal.invariant-loop-at
invariant-loop-at g l = record {
  same : l.byte-items ≡ l.text;
  in_order : l.plain_start ≤ l.at;
  boundary : IsCharBoundary l.text l.plain_start;
  plain : ArePlain l.text l.plain_start l.at;
  written : IsPlainFormatter l.fn.f → HasWritten g.W.Write.write_str_gives l.fn.f (quote_mark ∷ flat_map escaped (take l.plain_start l.text)) l.f;
}
