-- The marks of compiled code are those of its tree's nodes.
use Rattle.std.proofs.Common.{◌≡◌, [], Option, Some, true, refl, ap, sym, subst, ◌∙◌}
use Rattle.std.specs.Prelude.{Bool}
use Rattle.std.specs.Prelude.{All, Contains, IfSome}
use Rattle.std.proofs.lemmas.List.Elements.{All-contains, All-contains_itself, All-weaker}
use Rattle.minijinja_syntax.specs.Syntax.{Syntax}
use Rattle.minijinja_syntax.specs.Texts.{Text}
use Rattle.minijinja_value.specs.Values.{Functions}
use Rattle.minijinja_syntax.specs.declared.tokens.Span.{Span}
use Rattle.minijinja_tree.specs.SpannedTrees.{Stmt, template, data_text, output, assignment, for_loop, if_cond, with_block, set_block, auto_escape, filter_block, named_block, extends, include, import_all, from_import, declare, call_block, do_call, break_loop, continue_loop, bare_expr, bare_stmt, bare_stmts}
use Rattle.minijinja_tree.specs.Standing.{Stands, StmtStands}
use Rattle.minijinja_tree.specs.Tree as bare
use Rattle.minijinja_tree.specs.Tree.{Block, blocks}
use Rattle.minijinja_grammar.specs.Derived.{IsTemplateTree, template_tree}
use Rattle.minijinja_grammar.specs.Places.{Place}
use Rattle.minijinja_instructions.specs.Instructions.{code_of}
use Rattle.minijinja_instructions.specs.InstructionLists.{Instructions, marks_of}
use Rattle.minijinja_semantics.specs.Layout.{block_code, expr_code, stmt_code}
use Rattle.minijinja_semantics.specs.Looks.{AreMarksOf, IsMarkOf, looks, stmt_looks, stmts_looks}
use Rattle.minijinja_semantics.specs.Marks.{block_marks, stmt_marks}
use Rattle.minijinja_semantics.specs.Pieces.{start}
use Rattle.minijinja_semantics.proofs.MarkedByNodes.{block_marked, expr_marked, template_marked}
use Rattle.minijinja_semantics.proofs.StmtFitting.{block_marks_are, expr_marks_are, template_marks_are}
use Rattle.minijinja_code.specs.BlockLists.{IsBlockList, list_of}
use Rattle.minijinja_code.specs.BlockMarks.{MarkedBlock, marked_blocks}
use Rattle.minijinja_compiler.specs.Headline.{IsCompiled, IsCompiledExpr}
use Rattle.minijinja_compiler.specs.declared.compile.Compiled.{Compiled}
use Rattle.minijinja_compiler.proofs.BlockMarking.{BlockStands, IsMarked, blocks_stand, marked_of}

-- a tree that is derived is a template
derived_template : {C F : Type 0} {f : Functions C F} {p : Place} {t : bare.Stmt C (Unit {0})} → IsTemplateTree f p t → (ss : bare.Stmts C (Unit {0})) × (t ≡ bare.template ss)
derived_template (template_tree {ss = ss} e i j k) = (ss, refl)

template_each : {C F : Type 0} (f : Functions C F) (S : Span → Type 0) (t : Stmt C) (ss : bare.Stmts C (Unit {0})) → bare_stmt t ≡ bare.template ss → StmtStands (λ x. S x.1) S t → All (IsMarkOf S) (stmt_marks f t)
template_each f S (template ss s) whole is h = template_marked S f ss s h
template_each f S (data_text x s) whole is h = absurd (cc)
template_each f S (output e s) whole is h = absurd (cc)
template_each f S (assignment t e s) whole is h = absurd (cc)
template_each f S (for_loop t e only again ss other s) whole is h = absurd (cc)
template_each f S (if_cond e ss other s) whole is h = absurd (cc)
template_each f S (with_block bs ss s) whole is h = absurd (cc)
template_each f S (set_block t e ss s) whole is h = absurd (cc)
template_each f S (auto_escape e ss s) whole is h = absurd (cc)
template_each f S (filter_block e ss s) whole is h = absurd (cc)
template_each f S (named_block x required ss s) whole is h = absurd (cc)
template_each f S (extends e s) whole is h = absurd (cc)
template_each f S (include e ignore s) whole is h = absurd (cc)
template_each f S (import_all e t s) whole is h = absurd (cc)
template_each f S (from_import e ns s) whole is h = absurd (cc)
template_each f S (declare m) whole is h = absurd (cc)
template_each f S (call_block e args from m s) whole is h = absurd (cc)
template_each f S (do_call e args from s) whole is h = absurd (cc)
template_each f S (break_loop s) whole is h = absurd (cc)
template_each f S (continue_loop s) whole is h = absurd (cc)

module _ {V E C F : Type 0} (f : Functions C F) (contents : V → C) where
  pub expression_marks : (source : Text) (c : Instructions V E) (k : IsCompiledExpr f contents source c) → AreMarksOf (code_of contents c) (marks_of c) (looks f [] k.nodes)
  expression_marks source c k =
      subst (λ is. AreMarksOf is (marks_of c) (looks f [] k.nodes)) (ap (λ t. expr_code f t start) k.bare ∙ sym k.code)
      (subst (λ ms. AreMarksOf (expr_code f (bare_expr k.nodes) start) ms (looks f [] k.nodes)) (sym k.marks) (expr_marks_are f k.nodes))

  pub expression_each : (source : Text) (c : Instructions V E) (k : IsCompiledExpr f contents source c) (p : Span → Bool) → Stands (λ t. p t.1 ≡ true) (λ s. p s ≡ true) k.nodes → All (IsMarkOf (λ s. p s ≡ true)) (marks_of c)
  expression_each source c k p h = subst (λ ms. All (IsMarkOf (λ s. p s ≡ true)) ms) (sym k.marks) (expr_marked (λ s. p s ≡ true) f k.nodes h)

  module _ (syntax : Syntax) (source filename : Text) (c : Compiled V E) (k : IsCompiled f contents syntax source filename c) where
    pub statement_marks : AreMarksOf (code_of contents c.instructions) (marks_of c.instructions) (stmt_looks f [] k.nodes)
    statement_marks =
        subst (λ is. AreMarksOf is (marks_of c.instructions) (stmt_looks f [] k.nodes)) (ap (λ t. stmt_code f t start) k.bare ∙ sym k.code)
        (subst (λ ms. AreMarksOf (stmt_code f (bare_stmt k.nodes) start) ms (stmt_looks f [] k.nodes)) (sym k.marks) (template_marks_are f k.nodes))

    -- the list of a block
    abbrev pub HasList : Block C (Unit {0}) → Type 0
    HasList b = (is : Instructions V E) × (list_of c.blocks b.name ≡ Some is) × IsBlockList f contents source filename b is

    abbrev pub HasMarks : MarkedBlock C → Type 0
    HasMarks b = (is : Instructions V E) × (list_of c.blocks b.name ≡ Some is) × (marks_of is ≡ block_marks f b.span b.body)

    abbrev pub AreItsMarks : MarkedBlock C → Type 0
    AreItsMarks b = IfSome (list_of c.blocks b.name) (λ is. AreMarksOf (code_of contents is) (marks_of is) (stmts_looks f [] b.body))

    same_list : {o : Option (Instructions V E)} {x y : Instructions V E} → o ≡ Some x → o ≡ Some y → x ≡ y
    same_list h k = cc

    one_block : (b : MarkedBlock C) → IsMarked HasList b → HasMarks b → AreItsMarks b
    one_block b h m =
        let list = h.1 in
        let same = same_list list.1 m.1 in
        let code = list.2.code in
        subst (λ o. IfSome o (λ is. AreMarksOf (code_of contents is) (marks_of is) (stmts_looks f [] b.body))) (sym m.1)
        (subst (λ is. AreMarksOf is (marks_of m.0) (stmts_looks f [] b.body)) (sym code ∙ ap (code_of contents) same)
        (subst (λ ms. AreMarksOf (block_code f (bare_stmts b.body)) ms (stmts_looks f [] b.body)) (sym m.2) (block_marks_are f b.span b.body)))

    pub blocks_marks : All AreItsMarks (marked_blocks k.nodes)
    blocks_marks =
        let bs = marked_blocks k.nodes in
        let lists = marked_of HasList k.nodes (subst (λ t. All HasList (blocks t)) (sym k.bare) k.lists.each) in
        All-weaker (Contains bs) AreItsMarks (λ b there. one_block b (All-contains (IsMarked HasList) bs b lists there) (All-contains HasMarks bs b k.block_marks there)) bs (All-contains_itself bs)

    module _ (p : Span → Bool) (stands : StmtStands (λ t. p t.1 ≡ true) (λ s. p s ≡ true) k.nodes) where
      pub statement_each : All (IsMarkOf (λ s. p s ≡ true)) (marks_of c.instructions)
      statement_each =
          let t = derived_template k.derived in
          subst (λ ms. All (IsMarkOf (λ s. p s ≡ true)) ms) (sym k.marks) (template_each f (λ s. p s ≡ true) k.nodes t.0 (k.bare ∙ t.1) stands)

      abbrev pub AreEach : MarkedBlock C → Type 0
      AreEach b = IfSome (list_of c.blocks b.name) (λ is. All (IsMarkOf (λ s. p s ≡ true)) (marks_of is))

      each_block : (b : MarkedBlock C) → BlockStands (λ t. p t.1 ≡ true) (λ s. p s ≡ true) b → HasMarks b → AreEach b
      each_block b h m = subst (λ o. IfSome o (λ is. All (IsMarkOf (λ s. p s ≡ true)) (marks_of is))) (sym m.1) (subst (λ ms. All (IsMarkOf (λ s. p s ≡ true)) ms) (sym m.2) (block_marked (λ s. p s ≡ true) f b.span b.body h.0 h.1))

      pub blocks_each : All AreEach (marked_blocks k.nodes)
      blocks_each =
          let bs = marked_blocks k.nodes in
          let there_stand = blocks_stand (λ t. p t.1 ≡ true) (λ s. p s ≡ true) k.nodes stands in
          All-weaker (Contains bs) AreEach (λ b there. each_block b (All-contains (BlockStands (λ t. p t.1 ≡ true) (λ s. p s ≡ true)) bs b there_stand there) (All-contains HasMarks bs b k.block_marks there)) bs (All-contains_itself bs)
