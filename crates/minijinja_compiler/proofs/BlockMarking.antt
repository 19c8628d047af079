-- The blocks of a tree whose nodes have places in the text: what holds of the blocks of the tree without them, and where they stand.
use Rattle.std.proofs.Common.{Bool, List, [], ◌∷◌, ◌++◌}
use Rattle.std.specs.Prelude.{All}
use Rattle.std.proofs.lemmas.List.Elements.{All-append, All-cons, All-head, All-nil, All-tail}
use Rattle.minijinja_tree.specs.SpannedTrees.{Stmt, template, data_text, output, assignment, for_loop, if_cond, with_block, set_block, auto_escape, filter_block, named_block, extends, include, import_all, from_import, declare, call_block, do_call, break_loop, continue_loop, Stmts, done, also, Macro, macro, bare_macro, bare_stmt, bare_stmts}
use Rattle.minijinja_syntax.specs.Streams.{SpannedTok}
use Rattle.minijinja_syntax.specs.declared.tokens.Span.{Span}
use Rattle.minijinja_tree.specs.Standing.{MacroStands, StmtStands, StmtsStand}
use Rattle.minijinja_tree.specs.Tree.{Block, all_blocks, blocks, macro_blocks}
use Rattle.minijinja_code.specs.BlockMarks.{MarkedBlock, all_marked_blocks, macro_marked_blocks, marked_blocks}

module _ {C : Type 0} (P : Block C (Unit {0}) → Type 0) where
  abbrev pub IsMarked : MarkedBlock C → Type 0
  IsMarked b = (required : Bool) × P (record { name = b.name; required = required; body = bare_stmts b.body })

  -- of all of a list, what holds of all of its front and of all of its end
  front : (xs ys : List (Block C (Unit {0}))) → All P (xs ++ ys) → All P xs
  front [] ys h = All-nil P
  front (x ∷ xs) ys h = All-cons P x xs (All-head P x (xs ++ ys) h) (front xs ys (All-tail P x (xs ++ ys) h))

  back : (xs ys : List (Block C (Unit {0}))) → All P (xs ++ ys) → All P ys
  back [] ys h = h
  back (x ∷ xs) ys h = back xs ys (All-tail P x (xs ++ ys) h)

  mutual
    pub marked_of : (s : Stmt C) → All P (blocks (bare_stmt s)) → All IsMarked (marked_blocks s)
    marked_of (template ss s) h = all_marked_of ss h
    marked_of (data_text t s) h = All-nil IsMarked
    marked_of (output e s) h = All-nil IsMarked
    marked_of (assignment t e s) h = All-nil IsMarked
    marked_of (for_loop t e only again ss other s) h =
        let xs = all_blocks (bare_stmts ss) in
        let ys = all_blocks (bare_stmts other) in
        All-append IsMarked (all_marked_blocks ss) (all_marked_blocks other) (all_marked_of ss (front xs ys h)) (all_marked_of other (back xs ys h))
    marked_of (if_cond e ss other s) h =
        let xs = all_blocks (bare_stmts ss) in
        let ys = all_blocks (bare_stmts other) in
        All-append IsMarked (all_marked_blocks ss) (all_marked_blocks other) (all_marked_of ss (front xs ys h)) (all_marked_of other (back xs ys h))
    marked_of (with_block ts ss s) h = all_marked_of ss h
    marked_of (set_block t e ss s) h = all_marked_of ss h
    marked_of (auto_escape e ss s) h = all_marked_of ss h
    marked_of (filter_block e ss s) h = all_marked_of ss h
    marked_of (named_block x required ss s) h =
        let inner = all_blocks (bare_stmts ss) in
        let block : Block C (Unit {0}) = record { name = x; required = required; body = bare_stmts ss } in
        All-cons IsMarked (record { name = x; span = s; body = ss }) (all_marked_blocks ss) (required, All-head P block inner h) (all_marked_of ss (All-tail P block inner h))
    marked_of (extends e s) h = All-nil IsMarked
    marked_of (include e ignore s) h = All-nil IsMarked
    marked_of (import_all e t s) h = All-nil IsMarked
    marked_of (from_import e ns s) h = All-nil IsMarked
    marked_of (declare m) h = macro_marked_of m h
    marked_of (call_block e args from m s) h = macro_marked_of m h
    marked_of (do_call e args from s) h = All-nil IsMarked
    marked_of (break_loop s) h = All-nil IsMarked
    marked_of (continue_loop s) h = All-nil IsMarked

    all_marked_of : (ss : Stmts C) → All P (all_blocks (bare_stmts ss)) → All IsMarked (all_marked_blocks ss)
    all_marked_of done h = All-nil IsMarked
    all_marked_of (also s rest) h =
        let xs = blocks (bare_stmt s) in
        let ys = all_blocks (bare_stmts rest) in
        All-append IsMarked (marked_blocks s) (all_marked_blocks rest) (marked_of s (front xs ys h)) (all_marked_of rest (back xs ys h))

    macro_marked_of : (m : Macro C) → All P (macro_blocks (bare_macro m)) → All IsMarked (macro_marked_blocks m)
    macro_marked_of (macro x args defaults ss s) h = all_marked_of ss h

-- the blocks of a tree stand where the nodes of the tree do
module _ {C : Type 0} (T : SpannedTok → Type 0) (S : Span → Type 0) where
  abbrev pub BlockStands : MarkedBlock C → Type 0
  BlockStands b = S b.span × StmtsStand T S b.body

  mutual
    pub blocks_stand : (s : Stmt C) → StmtStands T S s → All BlockStands (marked_blocks s)
    blocks_stand (template ss s) h = all_blocks_stand ss h.1
    blocks_stand (data_text t s) h = All-nil BlockStands
    blocks_stand (output e s) h = All-nil BlockStands
    blocks_stand (assignment t e s) h = All-nil BlockStands
    blocks_stand (for_loop t e only again ss other s) h = All-append BlockStands (all_marked_blocks ss) (all_marked_blocks other) (all_blocks_stand ss h.4) (all_blocks_stand other h.5)
    blocks_stand (if_cond e ss other s) h = All-append BlockStands (all_marked_blocks ss) (all_marked_blocks other) (all_blocks_stand ss h.2) (all_blocks_stand other h.3)
    blocks_stand (with_block ts ss s) h = all_blocks_stand ss h.2
    blocks_stand (set_block t e ss s) h = all_blocks_stand ss h.3
    blocks_stand (auto_escape e ss s) h = all_blocks_stand ss h.2
    blocks_stand (filter_block e ss s) h = all_blocks_stand ss h.2
    blocks_stand (named_block x required ss s) h = All-cons BlockStands (record { name = x; span = s; body = ss }) (all_marked_blocks ss) h (all_blocks_stand ss h.1)
    blocks_stand (extends e s) h = All-nil BlockStands
    blocks_stand (include e ignore s) h = All-nil BlockStands
    blocks_stand (import_all e t s) h = All-nil BlockStands
    blocks_stand (from_import e ns s) h = All-nil BlockStands
    blocks_stand (declare m) h = macro_blocks_stand m h
    blocks_stand (call_block e args from m s) h = macro_blocks_stand m h.4
    blocks_stand (do_call e args from s) h = All-nil BlockStands
    blocks_stand (break_loop s) h = All-nil BlockStands
    blocks_stand (continue_loop s) h = All-nil BlockStands

    all_blocks_stand : (ss : Stmts C) → StmtsStand T S ss → All BlockStands (all_marked_blocks ss)
    all_blocks_stand done h = All-nil BlockStands
    all_blocks_stand (also s rest) h = All-append BlockStands (marked_blocks s) (all_marked_blocks rest) (blocks_stand s h.0) (all_blocks_stand rest h.1)

    macro_blocks_stand : (m : Macro C) → MacroStands T S m → All BlockStands (macro_marked_blocks m)
    macro_blocks_stand (macro x args defaults ss s) h = all_blocks_stand ss h.3
