use Rattle.std.proofs.Common.{rules, arith, ◌≡◌, ◌+◌, ◌<◌, ◌++◌, [], length, drop, ap, sym, subst}
use Rattle.minijinja_tree.specs.Erasure.{stmt_tree}
use Rattle.minijinja_tree.specs.Tree.{all_blocks, blocks}
use Rattle.minijinja_tree.specs.declared.ast.Stmt.{size-Stmt}
use Rattle.minijinja_tree.proofs.Rows.{body_of}
use Rattle.minijinja_code.specs.Generator.{HaveTooLong}
use Rattle.minijinja_code.specs.declared.codegen.lists.ListError.TheVariants.{TooMany}
use Rattle.minijinja_tree.specs.SpannedErasure.{stmt_node}
use Rattle.minijinja_code.specs.BlockMarks.{all_marked_blocks, marked_blocks}
use Rattle.minijinja_code.proofs.MarkWalks.{MarkWalking, marked_after, marked_end, marked_next, marks_end, marks_none, marks_on, marks_start, nodes_of, none_marked}
use Rattle.minijinja_code.proofs.ListWalks.{StandSomewhere, Walking, after_stand, blocks_after, blocks_end, blocks_next, bodies_stand, here_stands, own_long, adds_nothing, smaller_here, walk_end, walk_long, walk_names, walk_on, walk_start}
use Rattle.minijinja_code.proofs.OwnBlocks.{passed_on}
use Rattle.minijinja_code.proofs.codegen.lists.+add_lists.Goals as goal
use Rattle.minijinja_code.proofs.codegen.lists.+add_lists.Goals.{then-nests+in_ok-add_lists, else-nests, then-nests-2+in_ok-add_lists-2, else-nests-2}

pub returns-in_err-add_list_of-clause-too_many : goal.returns-in_err-add_list_of-clause-too_many
returns-in_err-add_list_of-clause-too_many g t c =
    let v = g.V.TemplateValue.contents in
    let f = g.V.TemplateValue.functions in
    let s = stmt_tree v c.args.stmt.now in
    passed_on (λ refusal. refusal ≡ TooMany → HaveTooLong f (blocks s)) c.from_residual.result c.in_err-add_list_of.field-0.0 c.from_residual.ensures.1
    (λ k. own_long f s (c.in_err-add_list_of.ensures.too_many k))

pub loop-inner-init : goal.loop-inner-init
loop-inner-init g t c =
    let v = g.V.TemplateValue.contents in
    let f = g.V.TemplateValue.functions in
    let s = stmt_tree v c.args.stmt.now in
    let xs = c.body-first.result.now in
    let ys = c.else_body-second.result.now in
    record {
      stand = subst StandSomewhere (sym c.body-first.ensures.is) (bodies_stand s c.requires.stands).0;
      walking = walk_start f v c.args.source.text.now c.args.source.name.now s (all_blocks (body_of v xs)) (all_blocks (body_of v ys)) (ap all_blocks c.body-first.ensures.is) (ap all_blocks c.else_body-second.ensures.is) c.in_ok-add_list_of.ensures.added;
      marking = marks_start f (stmt_node v c.args.stmt.now) (all_marked_blocks (nodes_of v xs)) (all_marked_blocks (nodes_of v ys)) (ap all_marked_blocks c.body-first.ensures.nodes) (ap all_marked_blocks c.else_body-second.ensures.nodes) c.in_ok-add_list_of.ensures.marked;
    }

pub add_lists-requires : goal.add_lists-requires
add_lists-requires g t c =
    let v = g.V.TemplateValue.contents in
    let f = g.V.TemplateValue.functions in
    let s = stmt_tree v c.args.stmt.now in
    let xs = c.body-first.result.now in
    let ys = c.else_body-second.result.now in
    let l = c.loop-inner in
    let x = c.inner-item.result in
    let within : l.inner-index < length xs = omega arith in
    let now = all_blocks (body_of v (drop l.inner-index xs)) ++ all_blocks (body_of v ys) in
    let rest = all_blocks (body_of v (drop (l.inner-index + 1) xs)) ++ all_blocks (body_of v ys) in
    let next : now ≡ blocks (stmt_tree v x) ++ rest = blocks_next v xs l.inner-index x within c.inner-item.is (all_blocks (body_of v ys)) in
    let smaller = smaller_here (size-Stmt g.row.V.Denot g.row.V-Fault.Denot c.args.stmt.now) xs l.inner-index x within c.inner-item.is c.body-first.ensures.smaller in
    λ κs live. (omega (arith, smaller, c.decreases), (search rules, (search rules, (here_stands v xs l.inner-index x within c.inner-item.is l.invariant.stand, walk_names f v c.args.source.text.now c.args.source.name.now (blocks s) c.requires.names c.args.lists.now now (blocks (stmt_tree v x)) rest next l.invariant.walking))))

pub loop-inner-preserved : goal.loop-inner-preserved
loop-inner-preserved g t c =
    let v = g.V.TemplateValue.contents in
    let f = g.V.TemplateValue.functions in
    let s = stmt_tree v c.args.stmt.now in
    let xs = c.body-first.result.now in
    let ys = c.else_body-second.result.now in
    let l = c.loop-inner in
    let x = c.inner-item.result in
    let within : l.inner-index < length xs = omega arith in
    let now = all_blocks (body_of v (drop l.inner-index xs)) ++ all_blocks (body_of v ys) in
    let rest = all_blocks (body_of v (drop (l.inner-index + 1) xs)) ++ all_blocks (body_of v ys) in
    let next : now ≡ blocks (stmt_tree v x) ++ rest = blocks_next v xs l.inner-index x within c.inner-item.is (all_blocks (body_of v ys)) in
    let marked = all_marked_blocks (nodes_of v (drop l.inner-index xs)) ++ all_marked_blocks (nodes_of v ys) in
    let after = all_marked_blocks (nodes_of v (drop (l.inner-index + 1) xs)) ++ all_marked_blocks (nodes_of v ys) in
    let marked_is : marked ≡ marked_blocks (stmt_node v x) ++ after = marked_next v xs l.inner-index x within c.inner-item.is (all_marked_blocks (nodes_of v ys)) in
    record {
      stand = after_stand v xs l.inner-index x within c.inner-item.is l.invariant.stand;
      walking = elim c.if-nests.branch [
        | then-nests+in_ok-add_lists w ↦ rw w.lists-is (walk_on f v c.args.source.text.now c.args.source.name.now (blocks s) c.requires.names c.args.lists.now now (blocks (stmt_tree v x)) rest next l.invariant.walking w.in_ok-add_lists.ensures.added)
        | else-nests w ↦
            let none = adds_nothing f v c.args.source.text.now c.args.source.name.now (blocks (stmt_tree v x)) l.lists (c.nests.ensures w.if-nests.false) in
            rw w.lists-is (walk_on f v c.args.source.text.now c.args.source.name.now (blocks s) c.requires.names c.args.lists.now now (blocks (stmt_tree v x)) rest next l.invariant.walking none)
      ];
      marking = elim c.if-nests.branch [
        | then-nests+in_ok-add_lists w ↦ rw w.lists-is (marks_on f v c.args.stmt.now c.requires.names marked (marked_blocks (stmt_node v x)) after marked_is l.invariant.marking w.in_ok-add_lists.ensures.marked)
        | else-nests w ↦ rw w.lists-is (marks_on f v c.args.stmt.now c.requires.names marked (marked_blocks (stmt_node v x)) after marked_is l.invariant.marking (marks_none f (marked_blocks (stmt_node v x)) l.lists (none_marked v x (c.nests.ensures w.if-nests.false))))
      ];
    }

pub returns-in_err-add_lists-clause-too_many : goal.returns-in_err-add_lists-clause-too_many
returns-in_err-add_lists-clause-too_many g t c =
    let v = g.V.TemplateValue.contents in
    let f = g.V.TemplateValue.functions in
    let s = stmt_tree v c.args.stmt.now in
    let xs = c.body-first.result.now in
    let ys = c.else_body-second.result.now in
    let l = c.loop-inner in
    let x = c.inner-item.result in
    let within : l.inner-index < length xs = omega arith in
    let now = all_blocks (body_of v (drop l.inner-index xs)) ++ all_blocks (body_of v ys) in
    let rest = all_blocks (body_of v (drop (l.inner-index + 1) xs)) ++ all_blocks (body_of v ys) in
    let next : now ≡ blocks (stmt_tree v x) ++ rest = blocks_next v xs l.inner-index x within c.inner-item.is (all_blocks (body_of v ys)) in
    passed_on (λ refusal. refusal ≡ TooMany → HaveTooLong f (blocks s)) c.from_residual-in_err-add_lists.result c.in_err-add_lists.field-0.0 c.from_residual-in_err-add_lists.ensures.1
    (λ k. walk_long f v c.args.source.text.now c.args.source.name.now (blocks s) c.requires.names c.args.lists.now now (blocks (stmt_tree v x)) rest next l.invariant.walking (c.in_err-add_lists.ensures.too_many k))

pub loop-inner-2-init : goal.loop-inner-2-init
loop-inner-2-init g t c =
    let v = g.V.TemplateValue.contents in
    let f = g.V.TemplateValue.functions in
    let s = stmt_tree v c.args.stmt.now in
    let xs = c.body-first.result.now in
    let ys = c.else_body-second.result.now in
    let l = c.loop-inner in
    let none : all_blocks (body_of v (drop l.inner-index xs)) ≡ [] = blocks_end v xs l.inner-index (omega arith) in
    record {
      stand = subst StandSomewhere (sym c.else_body-second.ensures.is) (bodies_stand s c.requires.stands).1;
      walking = subst (λ bs. Walking f v c.args.source.text.now c.args.source.name.now (blocks s) c.args.lists.now (bs ++ all_blocks (body_of v ys)) l.lists) none l.invariant.walking;
      marking = subst (λ bs. MarkWalking f (marked_blocks (stmt_node v c.args.stmt.now)) c.args.lists.now (bs ++ all_marked_blocks (nodes_of v ys)) l.lists) (marked_end v xs l.inner-index (omega arith)) l.invariant.marking;
    }

pub add_lists-requires-then-nests-2 : goal.add_lists-requires-then-nests-2
add_lists-requires-then-nests-2 g t c =
    let v = g.V.TemplateValue.contents in
    let f = g.V.TemplateValue.functions in
    let s = stmt_tree v c.args.stmt.now in
    let xs = c.body-first.result.now in
    let ys = c.else_body-second.result.now in
    let l = c.loop-inner-2 in
    let x = c.inner-item-in-loop-inner-2.result in
    let within : l.inner-index < length ys = omega arith in
    let now = all_blocks (body_of v (drop l.inner-index ys)) in
    let rest = all_blocks (body_of v (drop (l.inner-index + 1) ys)) in
    let next : now ≡ blocks (stmt_tree v x) ++ rest = blocks_after v ys l.inner-index x within c.inner-item-in-loop-inner-2.is in
    let smaller = smaller_here (size-Stmt g.row.V.Denot g.row.V-Fault.Denot c.args.stmt.now) ys l.inner-index x within c.inner-item-in-loop-inner-2.is c.else_body-second.ensures.smaller in
    λ κs live. (omega (arith, smaller, c.decreases), (search rules, (search rules, (here_stands v ys l.inner-index x within c.inner-item-in-loop-inner-2.is l.invariant.stand, walk_names f v c.args.source.text.now c.args.source.name.now (blocks s) c.requires.names c.args.lists.now now (blocks (stmt_tree v x)) rest next l.invariant.walking))))

pub loop-inner-2-preserved : goal.loop-inner-2-preserved
loop-inner-2-preserved g t c =
    let v = g.V.TemplateValue.contents in
    let f = g.V.TemplateValue.functions in
    let s = stmt_tree v c.args.stmt.now in
    let xs = c.body-first.result.now in
    let ys = c.else_body-second.result.now in
    let l = c.loop-inner-2 in
    let x = c.inner-item-in-loop-inner-2.result in
    let within : l.inner-index < length ys = omega arith in
    let now = all_blocks (body_of v (drop l.inner-index ys)) in
    let rest = all_blocks (body_of v (drop (l.inner-index + 1) ys)) in
    let next : now ≡ blocks (stmt_tree v x) ++ rest = blocks_after v ys l.inner-index x within c.inner-item-in-loop-inner-2.is in
    let marked = all_marked_blocks (nodes_of v (drop l.inner-index ys)) in
    let after = all_marked_blocks (nodes_of v (drop (l.inner-index + 1) ys)) in
    let marked_is : marked ≡ marked_blocks (stmt_node v x) ++ after = marked_after v ys l.inner-index x within c.inner-item-in-loop-inner-2.is in
    record {
      stand = after_stand v ys l.inner-index x within c.inner-item-in-loop-inner-2.is l.invariant.stand;
      walking = elim c.if-nests-2.branch [
        | then-nests-2+in_ok-add_lists-2 w ↦ rw w.lists-is (walk_on f v c.args.source.text.now c.args.source.name.now (blocks s) c.requires.names c.args.lists.now now (blocks (stmt_tree v x)) rest next l.invariant.walking w.in_ok-add_lists-2.ensures.added)
        | else-nests-2 w ↦
            let none = adds_nothing f v c.args.source.text.now c.args.source.name.now (blocks (stmt_tree v x)) l.lists (c.nests-in-loop-inner-2.ensures w.if-nests-2.false) in
            rw w.lists-is (walk_on f v c.args.source.text.now c.args.source.name.now (blocks s) c.requires.names c.args.lists.now now (blocks (stmt_tree v x)) rest next l.invariant.walking none)
      ];
      marking = elim c.if-nests-2.branch [
        | then-nests-2+in_ok-add_lists-2 w ↦ rw w.lists-is (marks_on f v c.args.stmt.now c.requires.names marked (marked_blocks (stmt_node v x)) after marked_is l.invariant.marking w.in_ok-add_lists-2.ensures.marked)
        | else-nests-2 w ↦ rw w.lists-is (marks_on f v c.args.stmt.now c.requires.names marked (marked_blocks (stmt_node v x)) after marked_is l.invariant.marking (marks_none f (marked_blocks (stmt_node v x)) l.lists (none_marked v x (c.nests-in-loop-inner-2.ensures w.if-nests-2.false))))
      ];
    }

pub returns-in_err-add_lists-2-clause-too_many : goal.returns-in_err-add_lists-2-clause-too_many
returns-in_err-add_lists-2-clause-too_many g t c =
    let v = g.V.TemplateValue.contents in
    let f = g.V.TemplateValue.functions in
    let s = stmt_tree v c.args.stmt.now in
    let xs = c.body-first.result.now in
    let ys = c.else_body-second.result.now in
    let l = c.loop-inner-2 in
    let x = c.inner-item-in-loop-inner-2.result in
    let within : l.inner-index < length ys = omega arith in
    let now = all_blocks (body_of v (drop l.inner-index ys)) in
    let rest = all_blocks (body_of v (drop (l.inner-index + 1) ys)) in
    let next : now ≡ blocks (stmt_tree v x) ++ rest = blocks_after v ys l.inner-index x within c.inner-item-in-loop-inner-2.is in
    passed_on (λ refusal. refusal ≡ TooMany → HaveTooLong f (blocks s)) c.from_residual-in_err-add_lists-2.result c.in_err-add_lists-2.field-0.0 c.from_residual-in_err-add_lists-2.ensures.1
    (λ k. walk_long f v c.args.source.text.now c.args.source.name.now (blocks s) c.requires.names c.args.lists.now now (blocks (stmt_tree v x)) rest next l.invariant.walking (c.in_err-add_lists-2.ensures.too_many k))

pub returns-clause-added : goal.returns-clause-added
returns-clause-added g t c =
    let v = g.V.TemplateValue.contents in
    let f = g.V.TemplateValue.functions in
    let s = stmt_tree v c.args.stmt.now in
    let xs = c.body-first.result.now in
    let ys = c.else_body-second.result.now in
    let l = c.loop-inner-2 in
    walk_end f v c.args.source.text.now c.args.source.name.now (blocks s) c.requires.names c.args.lists.now (all_blocks (body_of v (drop l.inner-index ys))) (blocks_end v ys l.inner-index (omega arith)) l.invariant.walking

pub returns-clause-marked : goal.returns-clause-marked
returns-clause-marked g t c =
    let v = g.V.TemplateValue.contents in
    let ys = c.else_body-second.result.now in
    let l = c.loop-inner-2 in
    marks_end g.V.TemplateValue.functions (marked_blocks (stmt_node v c.args.stmt.now)) (all_marked_blocks (nodes_of v (drop l.inner-index ys))) (marked_end v ys l.inner-index (omega arith)) l.invariant.marking
