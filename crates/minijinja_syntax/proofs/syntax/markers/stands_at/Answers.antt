use Rattle.std.proofs.Common.{◌≡◌, sym, ap, ◌∙◌, true}
use Rattle.minijinja_syntax.specs.Markers.{stands}
use Rattle.minijinja_syntax.proofs.Delimiters.{start_boundary, end_boundary}
use Rattle.minijinja_syntax.proofs.syntax.markers.stands_at.Goals as goal
use Rattle.minijinja_syntax.proofs.syntax.markers.stands_at.Goals.{After-bytes_stand_at}

found : (c : After-bytes_stand_at) → c.bytes_stand_at.result ≡ true → stands c.args.delimiter.now c.args.text.now c.args.at ≡ true
found c h = ap (λ d. stands d c.args.text.now c.args.at) (sym c.as_bytes-2.ensures.value) ∙ ap (λ t. stands c.as_bytes-2.result.now t c.args.at) (sym c.as_bytes.ensures.value) ∙ sym c.bytes_stand_at.ensures ∙ h

pub returns-clause-start : goal.returns-clause-start
returns-clause-start c = λ h. start_boundary c.args.delimiter.now c.args.text.now c.args.at c.utf8.delimiter c.requires.some c.requires.within (found c h)

pub returns-clause-end : goal.returns-clause-end
returns-clause-end c = λ h. end_boundary c.args.delimiter.now c.args.text.now c.args.at c.utf8.delimiter c.utf8.text c.requires.some c.requires.within (found c h)
