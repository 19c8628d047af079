use Rattle.std.proofs.Common.{refl, subst, ◌∙◌}
use Rattle.std.specs.Prelude.{reverse}
use Rattle.minijinja_tree.specs.Erasure.{expr_tree}
use Rattle.minijinja_emitter.specs.internal.AtEmitter.{made_of, margin_of}
use Rattle.minijinja_emitter.specs.internal.Making.{Adds}
use Rattle.minijinja_code_expr.proofs.FilterChains.{applied, going_begin, going_last, going_more, rest_next}
use Rattle.minijinja_code_expr.proofs.FilterMarks.{left_begin, left_last, left_more, unwound_next}
use Rattle.minijinja_code_expr.proofs.filters.filters.Goals as goal

pub loop-last-init : goal.loop-last-init
loop-last-init g c =
    let v = g.V.TemplateValue.contents in
    let f = g.V.TemplateValue.functions in
    let m = c.begin_filter-last.ensures.marked in
    record {
      same = c.begin_filter-last.ensures.made;
      going = going_begin f v (made_of v c.args.code.now) (expr_tree v c.args.chain.now) c.begin_filter-last.result.filter.now c.new-waiting.result.items c.new-waiting.ensures.items c.begin_filter-last.ensures.filter c.requires;
      left = left_begin f v c.args.chain.now c.begin_filter-last.result c.new-waiting.result.items (margin_of c.args.code.now) c.new-waiting.ensures.items c.begin_filter-last.ensures.outer m.0 m.1 m.2;
    }

pub loop-last-preserved : goal.loop-last-preserved
loop-last-preserved g c =
    let v = g.V.TemplateValue.contents in
    let f = g.V.TemplateValue.functions in
    let last = c.loop-last.last in
    let next = c.begin_filter-last-in-Some in
    let m = next.ensures.marked in
    record {
      same = next.ensures.made ∙ c.loop-last.invariant.same;
      going = going_more f v (made_of v c.args.code.now) (expr_tree v c.args.chain.now)
          last.filter.now next.result.filter.now c.in-Some.operand c.loop-last.waiting.items c.push.new.self.items last
          refl c.in-Some.is next.ensures.filter c.in_ok-push.ensures.items c.loop-last.invariant.going;
      left = left_more f v last next.result c.in-Some.operand c.loop-last.waiting.items c.push.new.self.items (margin_of c.loop-last.code) c.in-Some.is c.in_ok-push.ensures.items next.ensures.outer m.0 m.1 m.2 c.loop-last.invariant.left;
    }

pub loop-next-init : goal.loop-next-init
loop-next-init g c =
    let v = g.V.TemplateValue.contents in
    let f = g.V.TemplateValue.functions in
    let last = c.loop-last.last in
    let waiting = reverse c.loop-last.waiting.items in
    let new = made_of v c.apply.new.code in
    let added = subst (λ m. Adds m new (applied f v last.filter.now)) c.loop-last.invariant.same c.in_ok-apply.ensures.added in
    record {
      rest = going_last f v (made_of v c.args.code.now) (expr_tree v c.args.chain.now) last.filter.now waiting new c.in_default.is added c.loop-last.invariant.going;
      left = left_last f v last waiting (margin_of c.loop-last.code) c.in_default.is c.in_ok-apply.ensures.marked c.loop-last.invariant.left;
    }

pub loop-next-preserved : goal.loop-next-preserved
loop-next-preserved g c =
    let v = g.V.TemplateValue.contents in
    let f = g.V.TemplateValue.functions in
    record {
      rest = rest_next f v (made_of v c.args.code.now) (expr_tree v c.args.chain.now)
          c.pop.new.self.items c.loop-next.waiting.items c.in-Some-pop.next (made_of v c.loop-next.code) (made_of v c.apply-in-Some-pop.new.code)
          c.in-Some-pop.ensures.items c.in_ok-apply-2.ensures.added c.loop-next.invariant.rest;
      left = unwound_next f v c.pop.new.self.items c.loop-next.waiting.items c.in-Some-pop.next (margin_of c.loop-next.code) c.in-Some-pop.ensures.items c.in_ok-apply-2.ensures.marked c.loop-next.invariant.left;
    }
