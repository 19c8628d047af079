-- What a generator shows of itself.
use Rattle.std.specs.Prelude.{ℕ, Bool, ◌&&◌, List, [], Option, is_none, reverse}
use Rattle.std.specs.Borrow.{Bor}
use Rattle.std.specs.BTreeMap.{BTreeMap}
use Rattle.minijinja_syntax.specs.Texts.{Text}
use Rattle.minijinja_syntax.specs.declared.error.Error.{Error}
use Rattle.minijinja_syntax.specs.declared.tokens.Span.{Span}
use Rattle.minijinja_semantics.specs.Code.{Instr}
use Rattle.minijinja_semantics.specs.Pieces.{Here}
use Rattle.minijinja_semantics.specs.Marks.{Margin}
use Rattle.minijinja_emitter.specs.internal.AtEmitter.{made_of, margin_of, texts_of}
use Rattle.minijinja_emitter.specs.internal.Making.{here_of}
use Rattle.minijinja_code.specs.Building.{Building, OpenBlock, are_closed, is_branch, is_conditions, is_loop}
use Rattle.minijinja_code.specs.declared.codegen.CodeGenerator.{CodeGenerator}
use Rattle.minijinja_code.specs.internal.OpenBlocks.{all_opened_in}
use Rattle.minijinja_instructions.specs.InstructionLists.{Instructions}

-- the instructions so far, over what values hold
abbrev pub generated : {V F C : Type 0} → (V → C) → CodeGenerator V F → List (Instr C)
generated c g = (made_of c g.code).code

-- the place after them, and the names of filters and tests that have an id
abbrev pub here_so_far : {V F C : Type 0} → (V → C) → CodeGenerator V F → Here
here_so_far c g = here_of (made_of c g.code)

-- the marks of the instructions so far, the line in force, and the span that is open
abbrev pub margin_so_far : {V F : Type 0} → CodeGenerator V F → Margin
margin_so_far g = margin_of g.code

-- the name and the text of the source
abbrev pub file_of : {V F : Type 0} → CodeGenerator V F → Text
file_of g = g.source.name.now

abbrev pub text_of : {V F : Type 0} → CodeGenerator V F → Text
text_of g = g.source.text.now

-- the blocks' lists, by name
abbrev pub blocks_of : {V F : Type 0} → CodeGenerator V F → BTreeMap (Bor Text) (Instructions V F)
blocks_of g = g.lists

-- the bytes of the data nodes so far, where they number under 2 ^ 64
abbrev pub counted_bytes : {V F : Type 0} → CodeGenerator V F → ℕ
counted_bytes g = g.raw_template_bytes

-- the error that every later call returns, if a call has failed
abbrev pub refusal_of : {V F : Type 0} → CodeGenerator V F → Option Error
refusal_of g = g.refusal

-- ---- what stays open from call to call

-- the open blocks, the innermost first
abbrev pub open_of : {V F : Type 0} → CodeGenerator V F → List OpenBlock
open_of g = all_opened_in [] g.pending.items

-- the spans that are open round the innermost one, the nearest first; the outermost is one of
-- zeros, which is none
abbrev pub outer_spans : {V F : Type 0} → CodeGenerator V F → List Span
outer_spans g = reverse g.spans.items

abbrev pub building : {V F C : Type 0} → (V → C) → CodeGenerator V F → Building C
building c g = record { code = generated c g; margin = margin_so_far g; outer = outer_spans g; blocks = open_of g }

-- what calls that build code leave alone
pub record Rest (V F : Type 0) : Type 0 where
  pub filters : List Text
  pub tests : List Text
  pub blocks : BTreeMap (Bor Text) (Instructions V F)
  pub counted : ℕ
  pub refusal : Option Error
  pub file : Text
  pub text : Text

abbrev pub rest_of : {V F : Type 0} → CodeGenerator V F → Rest V F
rest_of g = record {
  filters = texts_of g.code.filters;
  tests = texts_of g.code.tests;
  blocks = blocks_of g;
  counted = counted_bytes g;
  refusal = refusal_of g;
  file = file_of g;
  text = text_of g;
}

-- ---- tests of the innermost open block, which fail after a refusal

abbrev pub branch_is_open : {V F : Type 0} → CodeGenerator V F → Bool
branch_is_open g = is_none (refusal_of g) && is_branch (open_of g)

abbrev pub loop_is_open : {V F : Type 0} → CodeGenerator V F → Bool
loop_is_open g = is_none (refusal_of g) && is_loop (open_of g)

abbrev pub conditions_are_open : {V F : Type 0} → CodeGenerator V F → Bool
conditions_are_open g = is_none (refusal_of g) && is_conditions (open_of g)

abbrev pub nothing_is_open : {V F : Type 0} → CodeGenerator V F → Bool
nothing_is_open g = is_none (refusal_of g) && are_closed (open_of g)
