-- Where the instructions of each list lead.
use Rattle.minijinja_semantics.proofs.BlockBodies.{of_blocks}
use Rattle.minijinja_semantics.specs.Jumps.{LeadsWell}
use Rattle.minijinja_semantics.specs.Layout.{block_code}
use Rattle.minijinja_semantics.proofs.Leads.{layout_leads_well, block_leads_well, expression_leads_well}
use Rattle.minijinja_semantics.proofs.laws.layout_leads_well.Goals as goal

pub returns : goal.returns
returns g c =
    let f = g.V.TemplateValue.functions in
    record { template = layout_leads_well f; blocks = of_blocks (λ ss. LeadsWell (block_code f ss)) (block_leads_well f); expression = expression_leads_well f }
