-- What the runs of compiled code need: the tree is derived, so that it is well formed.
use Rattle.std.proofs.Common.{◌≡◌, List, [], ◌∷◌, Some, length, sym, subst}
use Rattle.std.specs.Prelude.{All, Contains, IfSome, codes}
use Rattle.std.proofs.lemmas.List.Elements.{All-contains, All-contains_itself, All-weaker}
use Rattle.minijinja_syntax.specs.Syntax.{Syntax}
use Rattle.minijinja_syntax.specs.Texts.{Text}
use Rattle.minijinja_value.specs.Values.{Functions}
use Rattle.minijinja_tree.specs.Tree.{Block, blocks}
use Rattle.minijinja_tree.specs.WellFormed.{IsWellFormed}
use Rattle.minijinja_grammar.proofs.Derivations.{template_formed}
use Rattle.minijinja_parser.specs.Derived.{template_place}
use Rattle.minijinja_instructions.specs.Instructions.{code_of}
use Rattle.minijinja_instructions.specs.InstructionLists.{Instructions}
use Rattle.minijinja_semantics.specs.Code.{Instr}
use Rattle.minijinja_semantics.specs.Correct.{a_statement}
use Rattle.minijinja_semantics.specs.Needs.{RunsNeedOnly, MacrosNeedOnly, made_in, undeclared}
use Rattle.minijinja_semantics.specs.Pieces.{start}
use Rattle.minijinja_semantics.specs.Units.{DoesBlock, all_units, units}
use Rattle.minijinja_semantics.proofs.RunNeeding.{tree_runs, macro_runs, block_runs}
use Rattle.minijinja_code.specs.BlockLists.{IsBlockList, list_of}
use Rattle.minijinja_compiler.specs.Headline.{IsCompiled}
use Rattle.minijinja_compiler.specs.declared.compile.Compiled.{Compiled}

module _ {V E C F : Type 0} (f : Functions C F) (contents : V → C) (syntax : Syntax) (source filename : Text) (c : Compiled V E) (k : IsCompiled f contents syntax source filename c) where
  well_formed : IsWellFormed k.tree
  well_formed = template_formed f (template_place syntax source) k.tree k.derived

  pub template_runs : RunsNeedOnly f (code_of contents c.instructions) (a_statement 0 (length (code_of contents c.instructions))) (codes "self" ∷ undeclared k.tree) (made_in k.tree)
  template_runs = tree_runs f (code_of contents c.instructions) k.tree well_formed.0 k.does

  pub template_macros : MacrosNeedOnly f (code_of contents c.instructions) (units f [] k.tree start)
  template_macros = macro_runs f (code_of contents c.instructions) k.tree well_formed.0 k.units

  -- in the list of this block the macros need only names of their closures
  abbrev MacrosIn : Block C (Unit {0}) → Type 0
  MacrosIn b = IfSome (list_of c.blocks b.name) (λ is. MacrosNeedOnly f (code_of contents is) (all_units f [] b.body start))

  pub block_macros : All MacrosIn (blocks k.tree)
  block_macros = All-weaker (Contains (blocks k.tree)) MacrosIn
      (λ b there.
      let list = All-contains (λ (b : Block C (Unit {0})). (is : Instructions V E) × (list_of c.blocks b.name ≡ Some is) × IsBlockList f contents source filename b is) (blocks k.tree) b k.lists.each there in
      let needs = All-contains (λ (b : Block C (Unit {0})). (code : List (Instr C)) → DoesBlock f code b.body → MacrosNeedOnly f code (all_units f [] b.body start)) (blocks k.tree) b (block_runs f k.tree well_formed) there in
      subst (λ o. IfSome o (λ is. MacrosNeedOnly f (code_of contents is) (all_units f [] b.body start))) (sym list.1) (needs (code_of contents list.0) list.2.does))
      (blocks k.tree) (All-contains_itself (blocks k.tree))
