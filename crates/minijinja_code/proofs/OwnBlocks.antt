-- The block that a statement is, by its node.
use Rattle.std.proofs.Common.{◌≡◌, ◌≤◌, ◌^◌, List, [], ◌∷◌, length, refl, sym, ap, ◌∙◌, subst, arith, Result, Ok, Err, zero}
use Rattle.std.specs.Prelude.{false, IfErr, IsErrAnd}
use Rattle.minijinja_value.specs.Values.{Functions}
use Rattle.minijinja_tree_expr.specs.declared.ast.Spanned.{Spanned}
use Rattle.minijinja_tree.specs.Erasure.{stmt_tree}
use Rattle.minijinja_tree.specs.Nodes.{node_of, span_of}
use Rattle.minijinja_tree.specs.SpannedErasure.{stmt_node}
use Rattle.minijinja_tree.specs.Tree.{Block, named_block}
use Rattle.minijinja_tree.specs.WellFormed.{AreInner}
use Rattle.minijinja_tree.specs.declared.ast.Block.{Block as BlockNode}
use Rattle.minijinja_tree.specs.declared.ast.Stmt.{Stmt, out-Stmt, roll-Stmt, roll-out-Stmt}
use Rattle.minijinja_tree.specs.declared.ast.Stmt.TheBlock as stmt_block
use Rattle.minijinja_tree.specs.declared.ast.Stmt.TheOpen as layer
use Rattle.minijinja_tree.specs.declared.ast.Stmt.TheVariants as stmt
use Rattle.minijinja_tree.specs.declared.ast.Stmt.TheVariants.{Block', CallBlock'}
use Rattle.minijinja_semantics.specs.Layout.{block_code}
use Rattle.minijinja_code.specs.Generator.{HaveTooLong}
use Rattle.minijinja_code.specs.private.Lists.{block_tree, marked_block, own_block, own_marked}
use Rattle.minijinja_code.specs.private.Statements.{MayStand, StandsSomewhere}
use Rattle.minijinja_code.proofs.SpannedArms.{block_node}
use Rattle.minijinja_code.proofs.StatementArms.{block_arm}

-- the node of a block
abbrev Blocked : {V F : Type 0} → Stmt V F → Type 0
Blocked {V} {F} s = (b : Spanned (BlockNode V F)) × (s ≡ stmt.Block b)

from-layer : {V F : Type 0} (s : Stmt V F) (b : Spanned (BlockNode V F)) → roll-Stmt V F (layer.Block b) ≡ s → Blocked s
from-layer s b h = (b, sym h ∙ stmt.rolls-Block b)

blocked : {V F : Type 0} (p : _) (x : _) (required : _) (k : _) (xs : _) (s : _) → Blocked {V = V} {F = F} (Block' p x required k xs s)
unfolding out-Stmt denote.Hole.Carrier.out
blocked {V} {F} p x required k xs s = from-layer (Block' p x required k xs s) _ (roll-out-Stmt V F (Block' p x required k xs s))

module _ {V F C : Type 0} (c : V → C) where
  -- what is none has no list of its own
  pub no_block : (s : Stmt V F) → ((b : Spanned (BlockNode V F)) → s ≡ stmt.Block b → ⊥) → own_block (stmt_tree c s) ≡ []
  no_block (Block' p x required k xs s) n = let w = blocked p x required k xs s in absurd (n w.0 w.1)
  no_block (CallBlock' p (stmt_block.struct-CallBlock call q x args defaults k xs at) s) n = refl
  no_block _ n = refl

  pub no_marked_block : (s : Stmt V F) → ((b : Spanned (BlockNode V F)) → s ≡ stmt.Block b → ⊥) → own_marked (stmt_node c s) ≡ []
  no_marked_block (Block' p x required k xs s) n = let w = blocked p x required k xs s in absurd (n w.0 w.1)
  no_marked_block (CallBlock' p (stmt_block.struct-CallBlock call q x args defaults k xs at) s) n = refl
  no_marked_block _ n = refl

  pub one_block : (s : Stmt V F) (b : Spanned (BlockNode V F)) (n : BlockNode V F) → s ≡ stmt.Block b → n ≡ node_of b → own_block (stmt_tree c s) ≡ block_tree c n ∷ []
  one_block s b n is at = ap own_block (block_arm c s b n is at)

  pub one_marked_block : (s : Stmt V F) (b : Spanned (BlockNode V F)) → s ≡ stmt.Block b → own_marked (stmt_node c s) ≡ marked_block c b ∷ []
  one_marked_block s b is = ap own_marked (block_node c s b (node_of b) (span_of b) is refl refl)

-- its body stands outside of loops
named_inner : {C L : Type 0} (l : _) (b : Block C L) → MayStand l (named_block b.name b.required b.body) → AreInner false b.body
named_inner l b w = w

pub block_inner : {V F C : Type 0} (c : V → C) (s : Stmt V F) (b : Spanned (BlockNode V F)) (n : BlockNode V F) → s ≡ stmt.Block b → n ≡ node_of b → StandsSomewhere (stmt_tree c s) → AreInner false (block_tree c n).body
block_inner c s b n is at w = named_inner w.in_loop (block_tree c n) (subst (MayStand w.in_loop) (block_arm c s b n is at) w.stands)

-- one of one block is too long
pub one_long : {X E C L F : Type 0} (Says : E → Type 0) (f : Functions C F) (b : Block C L) (bs : List (Block C L)) (r : Result X E) → bs ≡ b ∷ [] → IfErr r (λ e. Says e → 2 ^ 32 ≤ length (block_code f b.body)) → IfErr r (λ e. Says e → HaveTooLong f bs)
one_long Says f b bs (Ok x) is h = tt
one_long Says f b bs (Err e) is h = λ k. subst (HaveTooLong f) (sym is) (zero, b, omega arith, refl, h k)

-- what holds of an error holds of the refusal that passes it on
pub passed_on : {X E : Type 0} (P : E → Type 0) (r : Result X E) (x : E) → IsErrAnd r (λ e. e ≡ x) → P x → IfErr r P
passed_on P (Ok y) x h p = tt
passed_on P (Err e) x h p = subst P (sym h) p
