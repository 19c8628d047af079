use Rattle.std.proofs.Common.{rules, ◌≡◌, ◌≤◌, length, ◌∙◌, arith, sym, true, false, codes}
use Rattle.std.specs.Prelude.{bytes_eq}
use Rattle.minijinja_code_expr.proofs.Outputs.{items_of_one, many_plain, none_written, one_written, other_plain}
use Rattle.minijinja_code_expr.proofs.output.output_of_function.Goals as goal

pub returns-else-eq-2-clause-shown : goal.returns-else-eq-2-clause-shown
returns-else-eq-2-clause-shown g c =
    let one : length c.args.args.now ≡ 1 = search rules in
    let other : bytes_eq c.args.name.now (codes "loop") ≡ false = search rules in
    sym (other_plain g.V.TemplateValue.contents c.args.name.now c.args.args.now one other)

pub returns-in_default-clause-shown : goal.returns-in_default-clause-shown
returns-in_default-clause-shown g c =
    let several : 2 ≤ length c.args.args.now = omega arith in
    sym (many_plain g.V.TemplateValue.contents c.args.name.now c.args.args.now several)

pub returns-then-eq-clause-shown : goal.returns-then-eq-clause-shown
returns-then-eq-clause-shown g c =
    let none : length c.args.args.now ≡ 0 = search rules in
    let same : bytes_eq c.args.name.now (codes "super") ≡ true = search rules in
    sym (none_written g.V.TemplateValue.contents c.args.name.now c.args.args.now true none same)

pub returns-else-eq-clause-shown : goal.returns-else-eq-clause-shown
returns-else-eq-clause-shown g c =
    let none : length c.args.args.now ≡ 0 = search rules in
    let other : bytes_eq c.args.name.now (codes "super") ≡ false = search rules in
    sym (none_written g.V.TemplateValue.contents c.args.name.now c.args.args.now false none other)

pub returns-then-eq-2-clause-shown : goal.returns-then-eq-2-clause-shown
returns-then-eq-2-clause-shown g c =
    let one : length c.args.args.now ≡ 1 = search rules in
    let same : bytes_eq c.args.name.now (codes "loop") ≡ true = search rules in
    c.output_of_loop.ensures.shown ∙ one_written g.V.TemplateValue.contents c.args.name.now c.index-args-0.result c.args.args.now one c.index-args-0.is same

pub returns-then-eq-2-clause-items : goal.returns-then-eq-2-clause-items
returns-then-eq-2-clause-items g c =
    let one : length c.args.args.now ≡ 1 = search rules in
    items_of_one g.V.TemplateValue.contents c.output_of_loop.result c.index-args-0.result c.args.args.now one c.index-args-0.is c.output_of_loop.ensures.items
