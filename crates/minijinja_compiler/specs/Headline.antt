-- The main theorem: the code of a text is that of its one tree, and does what the tree means.
use Rattle.std.specs.Prelude.{◌≡◌, ◌≢◌, ℕ, ◌<◌, ◌≤◌, ◌^◌, ◌⊎◌, ⊤, false, List, length, None, All, Any, Contains, codes, MatchResult, Result}
use Rattle.std.specs.Borrow.{Bor}
use Rattle.std.specs.BTreeMap.{BTreeMap, keys}
use Rattle.minijinja_syntax.specs.Texts.{Text}
use Rattle.minijinja_value.specs.Values.{Functions}
use Rattle.minijinja_syntax.specs.Syntax.{Syntax, default_syntax}
use Rattle.minijinja_syntax.specs.Errors.{IsOutOfMemory, kind_of, span_of}
use Rattle.minijinja_syntax.specs.declared.error.Error.{Error}
use Rattle.minijinja_syntax.specs.declared.error.ErrorKind.TheVariants.{OutOfMemory, SourceTooLong, TooManyInstructions}
use Rattle.minijinja_lexer.specs.Stream.{IsNamed}
use Rattle.minijinja_grammar.specs.Derived.{IsExprTree, IsSpannedExpr, IsSpannedTemplate}
use Rattle.minijinja_grammar.specs.Places.{Place}
use Rattle.minijinja_grammar.specs.TokenSpans.{IsOfTokens}
use Rattle.minijinja_tree.specs.SpannedTrees as spanned
use Rattle.minijinja_tree.specs.SpannedTrees.{bare_expr, bare_stmt}
use Rattle.minijinja_tree.specs.Standing.{Stands, StmtStands}
use Rattle.minijinja_tree.specs.Tree.{Block, Expr, Stmt, blocks}
use Rattle.minijinja_parser.specs.Causes.{IsRefusal}
use Rattle.minijinja_parser.specs.Derived.{IsDerived, expr_place, expr_place_in, template_place}
use Rattle.minijinja_instructions.specs.Instructions.{code_of}
use Rattle.minijinja_semantics.specs.Pieces.{start}
use Rattle.minijinja_semantics.specs.Layout.{expr_code, stmt_code}
use Rattle.minijinja_semantics.specs.Marks.{expr_marks, stmt_marks}
use Rattle.minijinja_semantics.specs.Places.{placed_stmt}
use Rattle.minijinja_semantics.specs.Units.{DoUnits}
use Rattle.minijinja_semantics.specs.Correct.{DoesExpr, DoesStmt}
use Rattle.minijinja_semantics.specs.Jumps.{LeadsWell}
use Rattle.minijinja_code.specs.Hint.{IsHint, data_bytes}
use Rattle.minijinja_code.specs.BlockLists.{HaveLists}
use Rattle.minijinja_code.specs.BlockMarks.{HaveMarks, marked_blocks}
use Rattle.minijinja_code.specs.Generator.{HaveTooLong}
use Rattle.minijinja_instructions.specs.InstructionLists.{Instructions, is_required, marks_of, name_of, source_of}
use Rattle.minijinja_compiler.specs.declared.compile.Compiled.{Compiled}

-- each of these blocks has its list, and there is no other list
pub record AreBlockLists {V E C F L : Type 0} (f : Functions C F) (contents : V → C) (source filename : Text) (bs : List (Block C L)) (lists : BTreeMap (Bor Text) (Instructions V E)) : Type 0 where
  pub each : HaveLists f contents source filename bs lists
  pub only : All (λ k. Any (λ b. b.name ≡ k.now) bs) (keys lists)

-- The grammar derives one tree of the text (`tree`, `derived`, `only`). The code is the layout of
-- that tree (`code`).
--
-- The code does what the tree means (`does`): run from its start, over any operands and open loops
-- and on any answers from outside, the machine has the record, the ending and the answers left of
-- the meaning. Where it finishes, it is at the end of the code, with operands and loops as they
-- were. So does the code of each unit that is run by itself: a recursive loop, and what a macro or
-- the caller of a call block runs (`units`). Both hold of answers that number, with the values in
-- them, under 2^64 (`AreFew`).
--
-- The code has fewer than 2^32 instructions (`few`). Where they lead lies within the list, and
-- before them only where a loop asks for its next item (`leads`). It is no block, so it is none
-- that has to be overridden (`required`). Each block has a list of its own, of which the same holds
-- (`lists`).
--
-- The nodes of that tree have places in the text (`nodes`, `bare`): each stands where the
-- derivation of the tree has it, so that they are those that `parse` returns and no others
-- (`places`). Each goes from token to token, and a variable and data stand where their own tokens
-- do (`stands`). The instructions have the lines and the spans of these nodes (`marks`), and so
-- have the lists of the blocks (`block_marks`).
pub record IsCompiled {V E C F : Type 0} (f : Functions C F) (contents : V → C) (syntax : Syntax) (source filename : Text) (c : Compiled V E) : Type 0 where
  pub tree : Stmt C (Unit {0})
  pub derived : IsDerived f syntax source tree
  pub only : (t : Stmt C (Unit {0})) → IsDerived f syntax source t → t ≡ tree
  pub code : code_of contents c.instructions ≡ stmt_code f tree start
  pub does : DoesStmt f (code_of contents c.instructions) 0 (length (code_of contents c.instructions)) (placed_stmt f tree start)
  pub units : DoUnits f (code_of contents c.instructions) tree start
  pub few : length (code_of contents c.instructions) < 2 ^ 32
  pub leads : LeadsWell (code_of contents c.instructions)
  pub required : is_required c.instructions ≡ false
  pub hint : IsHint (data_bytes tree) c.buffer_size_hint
  pub lists : AreBlockLists f contents source filename (blocks tree) c.blocks
  pub nodes : spanned.Stmt C
  pub bare : bare_stmt nodes ≡ tree
  pub places : IsSpannedTemplate f (template_place syntax source) nodes
  pub stands : StmtStands (Contains (template_place syntax source).tokens) (IsOfTokens (template_place syntax source).tokens (template_place syntax source).last) nodes
  pub marks : marks_of c.instructions ≡ stmt_marks f nodes
  pub block_marks : HaveMarks f (marked_blocks nodes) c.blocks
  pub name : name_of c.instructions ≡ filename
  pub text : source_of c.instructions ≡ source

-- The grammar derives one tree of the tokens from a place on, an expression. The code is the layout
-- of that tree. It does what the tree means, and leaves the value of the expression on top of the
-- operands; this holds of answers that number, with the values in them, under 2^64. It has fewer
-- than 2^32 instructions, where they lead lies within the list, and it is no block that has to be
-- overridden. The instructions have the lines and the spans of the tree's nodes, each of which
-- stands where the derivation has it, from token to token.
pub record IsCompiledExprAt {V E C F : Type 0} (f : Functions C F) (contents : V → C) (place : Place) (source filename : Text) (c : Instructions V E) : Type 0 where
  pub tree : Expr C
  pub derived : IsExprTree f place tree
  pub only : (t : Expr C) → IsExprTree f place t → t ≡ tree
  pub code : code_of contents c ≡ expr_code f tree start
  pub does : DoesExpr f (code_of contents c) 0 (length (code_of contents c)) tree
  pub few : length (code_of contents c) < 2 ^ 32
  pub leads : LeadsWell (code_of contents c)
  pub required : is_required c ≡ false
  pub nodes : spanned.Expr C
  pub bare : bare_expr nodes ≡ tree
  pub places : IsSpannedExpr f place nodes
  pub stands : Stands (Contains place.tokens) (IsOfTokens place.tokens place.last) nodes
  pub marks : marks_of c ≡ expr_marks f nodes
  pub name : name_of c ≡ filename
  pub text : source_of c ≡ source

-- such code of a text that is an expression by itself, in the default syntax
abbrev pub IsCompiledExpr : {V E C F : Type 0} → Functions C F → (V → C) → (source : Text) → Instructions V E → Type 0
IsCompiledExpr f contents source c = IsCompiledExprAt f contents (expr_place default_syntax source) source (codes "<expression>") c

-- such code of the expression that takes the bytes from `start` to `stop` in a file
abbrev pub IsCompiledExprIn : {V E C F : Type 0} → Functions C F → (V → C) → Syntax → (file : Text) → (start stop : ℕ) → (filename : Text) → Instructions V E → Type 0
IsCompiledExprIn f contents syntax file start stop filename c = IsCompiledExprAt f contents (expr_place_in syntax file start stop) file filename c

-- a tree of the text has too much code, in its own list or in that of a block
pub record HasTooLongCode {C F : Type 0} (f : Functions C F) (syntax : Syntax) (source : Text) : Type 0 where
  pub tree : Stmt C (Unit {0})
  pub derived : IsDerived f syntax source tree
  pub long : (2 ^ 32 ≤ length (stmt_code f tree start)) ⊎ HaveTooLong f (blocks tree)

-- the tree of an expression has too much code
pub record HasTooLongExprCodeAt {C F : Type 0} (f : Functions C F) (place : Place) : Type 0 where
  pub tree : Expr C
  pub derived : IsExprTree f place tree
  pub long : 2 ^ 32 ≤ length (expr_code f tree start)

-- that of an expression by itself, in the default syntax
abbrev pub HasTooLongExprCode : {C F : Type 0} → Functions C F → (source : Text) → Type 0
HasTooLongExprCode f source = HasTooLongExprCodeAt f (expr_place default_syntax source)

-- a limit stands against the text: memory, the length of the source or the length of the code
abbrev pub IsCompileLimit : Error → Type 0
IsCompileLimit e = (kind_of e ≡ OutOfMemory) ⊎ (kind_of e ≡ SourceTooLong) ⊎ (kind_of e ≡ TooManyInstructions)

-- the text was compiled, or a limit stands against it
abbrev pub Succeeds : {A : Type 0} → Result A Error → Type 0
Succeeds r = MatchResult r (λ _. ⊤) IsCompileLimit

-- some list would have 2^32 instructions or more
abbrev pub IsTooMany : Error → Type 0
IsTooMany e = kind_of e ≡ TooManyInstructions

-- a refusal has the source's name, unless memory was refused or the code is too long
abbrev pub IsRefusedUnder : Text → Error → Type 0
IsRefusedUnder filename e = kind_of e ≢ OutOfMemory → kind_of e ≢ TooManyInstructions → IsNamed filename e

-- a refusal for memory has neither a place nor a name, and one for a length, of the source or of
-- the code, has no place
pub record IsCompileUnplaced (e : Error) : Type 0 where
  pub memory : kind_of e ≡ OutOfMemory → IsOutOfMemory e
  pub source : kind_of e ≡ SourceTooLong → span_of e ≡ None
  pub code : kind_of e ≡ TooManyInstructions → span_of e ≡ None

-- a text is refused for a fault in it, or because a limit stands against it
abbrev pub IsCompileCause : Error → Type 0
IsCompileCause e = IsRefusal e ⊎ IsCompileLimit e
