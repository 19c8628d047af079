use Rattle.minijinja_meta.proofs.Descending.{reaches-base}
use Rattle.minijinja_meta.proofs.expressions.leaf.Goals as goal

pub returns-in_default : goal.returns-in_default
returns-in_default g c = record {
  reaches = reaches-base g.V.TemplateValue.contents c.args.walker.now c.args.chain.now c.base_of-part.result c.requires c.base_of-part.ensures.way c.in_default.not-Var c.base_of-part.ensures.base;
  smaller = c.base_of-part.ensures.smaller;
}
