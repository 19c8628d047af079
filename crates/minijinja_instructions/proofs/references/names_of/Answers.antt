use Rattle.std.proofs.Common.{map, sym, ap, ◌∙◌, arith}
use Rattle.std.specs.Option.{option_map}
use Rattle.minijinja_semantics.specs.MacroBodies.{each_once}
use Rattle.minijinja_instructions.specs.Instructions.{instr_of}
use Rattle.minijinja_instructions.specs.private.Scanning.{visited_in}
use Rattle.minijinja_instructions.proofs.Scans.{all_visited, none_visited_yet, turn_at, turn_over}
use Rattle.minijinja_instructions.proofs.references.names_of.Goals as goal

pub loop-end-init : goal.loop-end-init
loop-end-init g c =
    let code = map (instr_of g.V.TemplateValue.contents) c.args.instructions.now in
    let names = map (λ x. x.now) c.new-names.result.in_order.items in
    record { within = c.requires; names = none_visited_yet names (visited_in code c.args.part) (ap (map (λ x. x.now)) c.new-names.ensures) }

pub loop-end-preserved-in-Some : goal.loop-end-preserved-in-Some
loop-end-preserved-in-Some g c =
    let now = c.loop-end.invariant in
    let names = map (λ x. x.now) c.loop-end.names.in_order.items in
    let all = each_once (visited_in (map (instr_of g.V.TemplateValue.contents) c.args.instructions.now) c.args.part) in
    record {
      within = omega (arith, c.min-end.ensures, now.within);
      names =
          turn_over (instr_of g.V.TemplateValue.contents) c.args.instructions.now c.args.part.start c.loop-end.end c.index-instructions-end.result c.loop-end-test.true now.within c.index-instructions-end.is
          names all c.in-Some.opening c.min-end.result (sym c.opening_of.ensures ∙ c.in-Some.is) c.min-end.ensures now.names;
    }

pub loop-end-preserved : goal.loop-end-preserved
loop-end-preserved g c =
    let now = c.loop-end.invariant in
    let names = map (λ x. x.now) c.loop-end.names.in_order.items in
    let more = map (λ x. x.now) c.add.new.self.in_order.items in
    let all = each_once (visited_in (map (instr_of g.V.TemplateValue.contents) c.args.instructions.now) c.args.part) in
    record {
      within = omega (arith, now.within);
      names =
          turn_at (instr_of g.V.TemplateValue.contents) c.args.instructions.now c.args.part.start c.loop-end.end c.index-instructions-end.result c.loop-end-test.true now.within c.index-instructions-end.is
          names more all (option_map (λ x. x.now) c.name_in.result) (sym c.opening_of.ensures ∙ c.in-None.is) c.name_in.ensures c.in_ok-add-in-None.ensures now.names;
    }

pub returns : goal.returns
returns g c =
    let code = map (instr_of g.V.TemplateValue.contents) c.args.instructions.now in
    let names = map (λ x. x.now) c.loop-end.names.in_order.items in
    all_visited c.args.part.start code c.loop-end.end names (each_once (visited_in code c.args.part)) c.loop-end-test.false c.loop-end.invariant.names
