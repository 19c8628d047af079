-- The lists of instructions of a tree's blocks.
use Rattle.std.specs.Prelude.{◌≡◌, ◌≢◌, ◌<◌, ◌^◌, List, length, All, Option, Some}
use Rattle.std.specs.Ordering.{nat_cmp}
use Rattle.std.specs.Borrow.{Bor}
use Rattle.std.specs.BTreeMap.{BTreeMap, get_by}
use Rattle.std.specs.Cmp.Lexicographic.{slice_cmp}
use Rattle.minijinja_syntax.specs.Texts.{Text}
use Rattle.minijinja_value.specs.Values.{Functions}
use Rattle.minijinja_tree.specs.Tree.{Block}
use Rattle.minijinja_instructions.specs.Instructions.{code_of}
use Rattle.minijinja_instructions.specs.InstructionLists.{is_required, name_of, source_of}
use Rattle.minijinja_instructions.specs.InstructionLists.{Instructions}
use Rattle.minijinja_semantics.specs.Layout.{block_code}
use Rattle.minijinja_semantics.specs.Units.{DoesBlock}
use Rattle.minijinja_semantics.specs.Jumps.{LeadsWell}

-- The list of a block is the layout of its body. Run from its start, it does what the body means,
-- and stops at its end; so does the code of each unit in it. Both hold of answers that number, with
-- the values in them, under 2 ^ 64. The list says whether the block has to be overridden; it has
-- fewer than 2 ^ 32 instructions, where they lead lies within it, and it has the name and the text
-- of the source.
pub record IsBlockList {V E C F L : Type 0} (f : Functions C F) (contents : V → C) (source filename : Text) (b : Block C L) (c : Instructions V E) : Type 0 where
  pub code : code_of contents c ≡ block_code f b.body
  pub does : DoesBlock f (code_of contents c) b.body
  pub required : is_required c ≡ b.required
  pub few : length (code_of contents c) < 2 ^ 32
  pub leads : LeadsWell (code_of contents c)
  pub name : name_of c ≡ filename
  pub text : source_of c ≡ source

-- the list of this name
abbrev pub list_of : {V E : Type 0} → BTreeMap (Bor Text) (Instructions V E) → Text → Option (Instructions V E)
list_of lists x = get_by (λ k. slice_cmp nat_cmp x k.now) lists

-- each of these blocks has its list
abbrev pub HaveLists : {V E C F L : Type 0} → Functions C F → (contents : V → C) → (source filename : Text) → List (Block C L) → BTreeMap (Bor Text) (Instructions V E) → Type 0
HaveLists {V} {E} f contents source filename bs lists = All (λ b. (c : Instructions V E) × (list_of lists b.name ≡ Some c) × IsBlockList f contents source filename b c) bs

-- the lists of these blocks were added, and lists under other names stay as they were
pub record AddsLists {V E C F L : Type 0} (f : Functions C F) (contents : V → C) (source filename : Text) (bs : List (Block C L)) (old new : BTreeMap (Bor Text) (Instructions V E)) : Type 0 where
  pub added : HaveLists f contents source filename bs new
  pub others : (x : Text) → All (λ b. b.name ≢ x) bs → list_of new x ≡ list_of old x
