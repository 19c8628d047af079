-- What a line of a file of answers says.
use Rattle.std.proofs.Common.{arith, inl, inr, ◌≡◌, ◌+◌, ◌∷◌, [], ◌++◌, ◌∙◌, suc, List, Option, None, Some, Vec, Global, ap, codes, length, map, refl, subst, sym}
use Rattle.std.specs.Prelude.{◌⊎◌, ℕ, zero, ◌<◌, IsNone, drop, get_or, take}
use Rattle.minijinja_syntax.specs.Texts.{Text}
use Rattle.minijinja_syntax.specs.Syntax.{default_syntax}
use Rattle.minijinja_value.specs.ValueContents.{Contents, Pairs, items_of, list as list_value}
use Rattle.minijinja_value.specs.ValueFunctions.{value_functions}
use Rattle.minijinja_value.specs.ValueViews.{contents_of, contents_step, map_step}
use Rattle.minijinja_value.specs.declared.value.Value.{Value, Value-F, fold-roll-Value, out-Value, roll-Value, roll-out-Value}
use Rattle.minijinja_value.specs.declared.value.Value.TheOpen as layer
use Rattle.minijinja_value.specs.declared.value.Value.TheVariants as value
use Rattle.minijinja_value.specs.declared.value.ValueMap.{ValueMap}
use Rattle.minijinja_value.specs.declared.value.ValueFault.{ValueFault}
use Rattle.minijinja_tree_expr.specs.Erasure.{expr_tree}
use Rattle.minijinja_tree_expr.specs.Folding.{constants, fold, if_some}
use Rattle.minijinja_tree_expr.specs.Tree.{Expr, Exprs, list}
use Rattle.minijinja_tree_expr.specs.declared.ast.CallArg.TheBlock as block
use Rattle.minijinja_tree_expr.specs.declared.ast.Expr.{Expr as Node}
use Rattle.minijinja_tree_expr.specs.declared.ast.Expr.TheVariants as expr
use Rattle.minijinja_tree_expr.specs.declared.ast.Expr.TheVariants.{Compare', List'}
use Rattle.minijinja_tree_expr.specs.declared.ast.List.{List as ListNode}
use Rattle.minijinja_tree_expr.specs.declared.ast.Spanned.{Spanned}
use Rattle.minijinja_tree_expr.proofs.Lists.{listed}
use Rattle.minijinja_parser.specs.Answers.{IsShort}
use Rattle.minijinja_parser.specs.Derived.{IsExprDerived}
use Rattle.minijinja_semantics.specs.Answers.{volume}
use Rattle.minijinja_semantics.specs.Events.{Answer, Fault, Values}
use Rattle.mjc_commands.specs.AnswerFile.{IsAnswer, IsAnswerFile, IsBadLine, SayAnswers, fault, listed_constants, values}
use Rattle.mjc_commands.specs.Failure.{IsBadAnswer}
use Rattle.mjc_commands.specs.Showing.{IsMemory}
use Rattle.mjc_commands.specs.declared.failure.Failure.{Failure}
use Rattle.mjc_commands.specs.declared.failure.Failure.TheVariants as failure
use Rattle.mjc_commands.specs.private.AtAnswers.{each_item, items_in}

-- only a list literal has listed constants
pub not-listed : (e : Node Value ValueFault) → ((s : Spanned (ListNode Value ValueFault)) → e ≡ expr.List s → ⊥) → listed_constants (expr_tree contents_of e) ≡ None
not-listed (List' p k items s) n = let w = listed p k items s in absurd (n w.0 w.1)
not-listed (Compare' p (block.struct-Compare e k ops) s) n = refl
not-listed _ n = refl

-- the items of a list are the values that it was made of
pub each_item-items_of : (xs : List Contents) → each_item (items_of xs) ≡ xs
each_item-items_of [] = refl
each_item-items_of (x ∷ xs) = ap (λ l. x ∷ l) (each_item-items_of xs)

made_of : (o : Option (List Contents)) (x : Contents) → Some x ≡ if_some o (λ cs. Some (list_value (items_of cs))) → items_in x ≡ o
unfolding if_some
made_of None x e = absurd cc
made_of (Some cs) x e = let same : x ≡ list_value (items_of cs) = cc in ap items_in same ∙ ap Some (each_item-items_of cs)

none_made : (o : Option (List Contents)) → None ≡ if_some o (λ cs. Some (list_value (items_of cs))) → None ≡ o
unfolding if_some
none_made None e = refl
none_made (Some cs) e = absurd cc

-- a list of constants folds to the list of what they hold
pub folded_items : (es : Exprs Contents) (x : Contents) → Some x ≡ fold value_functions (list es) → items_in x ≡ constants es
unfolding fold
folded_items es x e = made_of (constants es) x e

-- a list that does not fold has an item that is no constant
pub not_folded : (es : Exprs Contents) → None ≡ fold value_functions (list es) → None ≡ constants es
unfolding fold
not_folded es e = none_made (constants es) e

-- a list has the items that it is seen as
pub list_items : (x : Vec Value Global) → items_in (contents_of (value.List x)) ≡ Some (map contents_of x.items)
list_items x = ap (λ v. items_in (contents_of v)) (sym (value.rolls-List x)) ∙ ap items_in (fold-roll-Value Contents Pairs contents_step map_step (layer.List x)) ∙ ap Some (each_item-items_of (map contents_of x.items))

none_of : (d : Value-F Value ValueMap) → ((x : Vec Value Global) → roll-Value d ≡ value.List x → ⊥) → None ≡ items_in (contents_of (roll-Value d))
none_of layer.Undefined n = sym (ap items_in (fold-roll-Value Contents Pairs contents_step map_step layer.Undefined))
none_of layer.SilentUndefined n = sym (ap items_in (fold-roll-Value Contents Pairs contents_step map_step layer.SilentUndefined))
none_of layer.None n = sym (ap items_in (fold-roll-Value Contents Pairs contents_step map_step layer.None))
none_of (layer.Bool x) n = sym (ap items_in (fold-roll-Value Contents Pairs contents_step map_step (layer.Bool x)))
none_of (layer.Integer x) n = sym (ap items_in (fold-roll-Value Contents Pairs contents_step map_step (layer.Integer x)))
none_of (layer.String x) n = sym (ap items_in (fold-roll-Value Contents Pairs contents_step map_step (layer.String x)))
none_of (layer.List x) n = absurd (n x (value.rolls-List x))
none_of (layer.Tuple x) n = sym (ap items_in (fold-roll-Value Contents Pairs contents_step map_step (layer.Tuple x)))
none_of (layer.Map x) n = sym (ap items_in (fold-roll-Value Contents Pairs contents_step map_step (layer.Map x)))
none_of (layer.Kwargs x) n = sym (ap items_in (fold-roll-Value Contents Pairs contents_step map_step (layer.Kwargs x)))

-- only a list has items
pub not-list : (v : Value) → ((x : Vec Value Global) → v ≡ value.List x → ⊥) → None ≡ items_in (contents_of v)
not-list v n =
    subst (λ w. None ≡ items_in (contents_of w)) (roll-out-Value v) (none_of (out-Value v) (λ x e. n x (sym (roll-out-Value v) ∙ e)))

-- a line that is neither the word nor a list of constants says no answer
pub says_none : (line : Text) → (line ≡ codes "fault" → ⊥) → ((e : Expr Contents) (vs : List Contents) → IsShort line → IsExprDerived value_functions default_syntax line e → listed_constants e ≡ Some vs → ⊥) → (a : Answer Contents) → ¬ IsAnswer line a
says_none line other unlisted Fault (fault is) = other is
says_none line other unlisted (Values vs) (values e vs' short derived listed) = unlisted e _ short derived listed

-- one more line says one more answer
pub say_more : (lines : List Text) (answers : List (Answer Contents)) (line : Text) (a : Answer Contents) → SayAnswers lines answers → IsAnswer line a → SayAnswers (lines ++ line ∷ []) (answers ++ a ∷ [])
say_more [] [] line a said one = (one, tt)
say_more [] (b ∷ answers) line a said one = absurd said
say_more (l ∷ lines) [] line a said one = absurd said
say_more (l ∷ lines) (b ∷ answers) line a said one = (said.0, say_more lines answers line a said.1 one)

-- as many lines as answers
pub as_many : (lines : List Text) (answers : List (Answer Contents)) → SayAnswers lines answers → length lines ≡ length answers
as_many [] [] said = refl
as_many [] (b ∷ answers) said = absurd said
as_many (l ∷ lines) [] said = absurd said
as_many (l ∷ lines) (b ∷ answers) said = ap suc (as_many lines answers said.1)

-- the number of answers and of their values, with one more
pub volume-more : (answers : List (Answer Contents)) (a : Answer Contents) → volume (answers ++ a ∷ []) ≡ volume answers + volume (a ∷ [])
volume-more [] a = omega arith
volume-more (Fault ∷ rest) a = let more = volume-more rest a in omega arith
volume-more (Values vs ∷ rest) a = let more = volume-more rest a in omega arith

-- a list is what stands before an item, the item, and what stands after it
pub split_at : (all : List Text) (n : ℕ) (x : Text) → (n < length all) × (x ≡ get_or all n x) → all ≡ take n all ++ x ∷ drop (suc n) all
split_at [] n x h = let none = h.0 in absurd (omega arith)
split_at (y ∷ ys) zero x h = ap (λ z. z ∷ ys) (sym h.1)
split_at (y ∷ ys) (suc n) x h = let less = h.0 in ap (λ l. y ∷ l) (split_at ys n x (omega arith, h.1))

-- what is not some is none
pub is_none : {X : Type 0} (o : Option X) → ((x : X) → o ≡ Some x → ⊥) → IsNone o
is_none None n = refl
is_none (Some x) n = absurd (n x refl)

not_said : (before : List Text) (line : Text) (after : List Text) (answers : List (Answer Contents)) → ((a : Answer Contents) → ¬ IsAnswer line a) → SayAnswers (before ++ line ∷ after) answers → ⊥
not_said [] line after [] unsaid said = said
not_said [] line after (a ∷ answers) unsaid said = unsaid a said.0
not_said (l ∷ before) line after [] unsaid said = said
not_said (l ∷ before) line after (a ∷ answers) unsaid said = not_said before line after answers unsaid said.1

-- in a file of answers no line is bad
pub no_bad_line : (text : Text) (n : ℕ) → IsBadLine text n → IsAnswerFile text → ⊥
no_bad_line text n bad file = not_said bad.before bad.line bad.after file.0 bad.unsaid (subst (λ ls. SayAnswers ls file.0) bad.stands file.1)

-- where each line is an answer, reading them fails only if memory is refused
pub fails_for_memory : (text : Text) (f : Failure) → IsMemory f ⊎ IsBadAnswer (IsBadLine text) f → IsAnswerFile text → IsMemory f
fails_for_memory text f (inl memory) file = memory
fails_for_memory text (failure.BadAnswer n) (inr bad) file = absurd (no_bad_line text n bad file)
fails_for_memory text (failure.Refused kind line column) (inr bad) file = absurd bad
fails_for_memory text failure.Usage (inr bad) file = absurd bad
fails_for_memory text (failure.CannotRead path) (inr bad) file = absurd bad
fails_for_memory text failure.CannotWrite (inr bad) file = absurd bad
