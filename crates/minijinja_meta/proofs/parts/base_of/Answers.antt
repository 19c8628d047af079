use Rattle.minijinja_meta.proofs.Descending.{based-ends, not-attribute}
use Rattle.minijinja_meta.proofs.parts.base_of.Goals as goal

pub returns : goal.returns
returns g c =
    let v = g.V.TemplateValue.contents in
    let base = not-attribute {F = g.row.V-Fault.Denot} v c.loop-part.part.now c.in_default.not-GetAttr in
    record {
      way = based-ends v c.args.chain.now c.loop-part.part.now c.loop-part.invariant base;
      base = base;
      smaller = c.loop-part.invariant.small;
    }
