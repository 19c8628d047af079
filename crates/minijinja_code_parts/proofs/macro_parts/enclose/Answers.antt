use Rattle.std.proofs.Common.{rules, ◌≡◌, ◌∙◌}
use Rattle.std.specs.Borrow.{Bor}
use Rattle.std.specs.BTreeSet.{keys}
use Rattle.std.proofs.lemmas.Map.Iter.{iter_end}
use Rattle.minijinja_syntax.specs.Texts.{Text}
use Rattle.minijinja_tree.specs.Erasure.{macro_tree}
use Rattle.minijinja_emitter.specs.internal.AtEmitter.{margin_of}
use Rattle.minijinja_code_parts.proofs.MacroParts.{added_other, enclosed_end, flags_end, flags_other, inner_names, ok_value}
use Rattle.minijinja_code_parts.proofs.Marking.{marked_enclosed, marked_other}
use Rattle.minijinja_code_parts.proofs.macro_parts.enclose.Goals as goal

pub loop-name-preserved : goal.loop-name-preserved
loop-name-preserved g c =
    let l = c.loop-name in
    record {
      flags = flags_other l.yielded c.in-Some.name l.flags c.eq.result c.eq.ensures c.if-eq.false l.invariant.flags;
      added = added_other l.yielded c.in-Some.name c.eq.result c.eq.ensures c.if-eq.false l.invariant.added c.in_ok-add.ensures.added;
      marked = marked_other l.yielded c.in-Some.name c.eq.result (margin_of c.args.code.now) c.eq.ensures c.if-eq.false l.invariant.marked c.in_ok-add.ensures.marked;
    }

pub returns-clause-flags : goal.returns-clause-flags
returns-clause-flags g c =
    let start : c.into_iter-name-iterator.result ≡ keys c.in_ok-closure.closure = search rules in
    let all = iter_end (λ (k : Bor (Bor Text)). k.now) (keys c.in_ok-closure.closure) c.loop-name.yielded c.into_iter-name-iterator.result c.loop-name.name-iterator c.next.new.self c.next.result start c.loop-name.yielded_by c.in-None.is c.next.ensures.steps in
    flags_end (macro_tree g.V.TemplateValue.contents c.args.declared.now) _ c.loop-name.flags (inner_names c.loop-name.yielded (keys c.in_ok-closure.closure) all.0 ∙ ok_value _ c.in_ok-closure.ensures c.find_macro_closure.ensures.closure) c.loop-name.invariant.flags

pub returns-clause-added : goal.returns-clause-added
returns-clause-added g c =
    let start : c.into_iter-name-iterator.result ≡ keys c.in_ok-closure.closure = search rules in
    let all = iter_end (λ (k : Bor (Bor Text)). k.now) (keys c.in_ok-closure.closure) c.loop-name.yielded c.into_iter-name-iterator.result c.loop-name.name-iterator c.next.new.self c.next.result start c.loop-name.yielded_by c.in-None.is c.next.ensures.steps in
    enclosed_end (macro_tree g.V.TemplateValue.contents c.args.declared.now) _ (inner_names c.loop-name.yielded (keys c.in_ok-closure.closure) all.0 ∙ ok_value _ c.in_ok-closure.ensures c.find_macro_closure.ensures.closure) c.loop-name.invariant.added

pub returns-clause-marked : goal.returns-clause-marked
returns-clause-marked g c =
    let start : c.into_iter-name-iterator.result ≡ keys c.in_ok-closure.closure = search rules in
    let all = iter_end (λ (k : Bor (Bor Text)). k.now) (keys c.in_ok-closure.closure) c.loop-name.yielded c.into_iter-name-iterator.result c.loop-name.name-iterator c.next.new.self c.next.result start c.loop-name.yielded_by c.in-None.is c.next.ensures.steps in
    marked_enclosed (macro_tree g.V.TemplateValue.contents c.args.declared.now) (margin_of c.args.code.now) _ (inner_names c.loop-name.yielded (keys c.in_ok-closure.closure) all.0 ∙ ok_value _ c.in_ok-closure.ensures c.find_macro_closure.ensures.closure) c.loop-name.invariant.marked
