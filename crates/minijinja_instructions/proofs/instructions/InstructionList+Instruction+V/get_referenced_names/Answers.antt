use Rattle.std.proofs.Common.{[]}
use Rattle.minijinja_semantics.specs.Layout.{block_code, expr_code, stmt_code}
use Rattle.minijinja_semantics.specs.Pieces.{start}
use Rattle.minijinja_semantics.specs.Units.{all_units, units}
use Rattle.minijinja_semantics.proofs.MacroPlaces.{block_nests, expression_nests, template_nests}
use Rattle.minijinja_instructions.specs.InstructionLists.{instructions_of}
use Rattle.minijinja_instructions.specs.Instructions.{instr_of}
use Rattle.minijinja_instructions.proofs.Reaching.{names_are}
use Rattle.minijinja_instructions.proofs.instructions.InstructionList+Instruction+V.get_referenced_names.Goals as goal

pub returns-clause-template : goal.returns-clause-template
returns-clause-template g c = λ t same.
    let f = g.V.TemplateValue.functions in
    names_are (instr_of g.V.TemplateValue.contents) c.deref.result.now (instructions_of c.args.self.now) (stmt_code f t start) (units f [] t start) c.args.index _
    c.in_ok-referenced_names.ensures c.deref.ensures.value (template_nests f t) same

pub returns-clause-block : goal.returns-clause-block
returns-clause-block g c = λ body same.
    let f = g.V.TemplateValue.functions in
    names_are (instr_of g.V.TemplateValue.contents) c.deref.result.now (instructions_of c.args.self.now) (block_code f body) (all_units f [] body start) c.args.index _
    c.in_ok-referenced_names.ensures c.deref.ensures.value (block_nests f body) same

pub returns-clause-expression : goal.returns-clause-expression
returns-clause-expression g c = λ e same.
    let f = g.V.TemplateValue.functions in
    names_are (instr_of g.V.TemplateValue.contents) c.deref.result.now (instructions_of c.args.self.now) (expr_code f e start) [] c.args.index _
    c.in_ok-referenced_names.ensures c.deref.ensures.value (expression_nests f e) same
