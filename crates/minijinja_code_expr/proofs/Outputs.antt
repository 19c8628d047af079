-- How outputs are told apart by what they write.
use Rattle.std.proofs.Common.{◌≡◌, ◌≤◌, List, [], ◌∷◌, length, get_or, refl, sym, ap, ◌∙◌, subst, arith}
use Rattle.std.specs.Prelude.{Bool, true, false, codes, bytes_eq}
use Rattle.minijinja_syntax.specs.Texts.{Text}
use Rattle.minijinja_tree.specs.Erasure.{expr_tree, compare_tree, arg_tree, args_of}
use Rattle.minijinja_tree.specs.SpannedErasure as node
use Rattle.minijinja_tree.specs.Tree as tree
use Rattle.minijinja_tree.specs.WellFormed.{IsWhole}
use Rattle.minijinja_tree_expr.specs.declared.ast.CallArg.TheBlock as block
use Rattle.minijinja_tree_expr.specs.declared.ast.Expr.{Expr}
use Rattle.minijinja_tree_expr.specs.declared.ast.Expr.TheVariants as expr
use Rattle.minijinja_semantics.specs.Calls.{Recursion, Plain, written_loop, written_super, written_function, written}
use Rattle.minijinja_semantics.proofs.StatementSimulation.{WrittenWhole, written_whole}
use Rattle.minijinja_code_expr.specs.declared.output.Output.{Output}
use Rattle.minijinja_code_expr.specs.internal.Outputs.{ItemsAre}

compare_plain : {V F C : Type 0} (c : V → C) (q : block.the_data-4 V F) → written (compare_tree c q) ≡ Plain
compare_plain c (block.struct-Compare e k ops) = refl

pub comparison_plain : {V F C : Type 0} (c : V → C) (e : Expr V F) (s : _) → e ≡ expr.Compare s → written (expr_tree c e) ≡ Plain
comparison_plain {V} {F} c e s is = ap (λ (x : Expr V F). written (expr_tree c x)) is ∙ compare_plain {F = F} c s.place.value.node

-- the items of a recursion are whole
pub recursion_whole : {C : Type 0} (e d : tree.Expr C) → IsWhole e → written e ≡ Recursion d → IsWhole d
recursion_whole e d is same = subst WrittenWhole same (written_whole e is)

two_plain : {V F C : Type 0} (c : V → C) (x : Text) (a b : block.the_data V F) (rest : tree.Args C) → written_function x (arg_tree c a (arg_tree c b rest)) ≡ Plain
two_plain c x (block.Pos e) (block.Pos d) rest = refl
two_plain c x (block.Pos e) (block.Kwarg y d) rest = refl
two_plain c x (block.Pos e) (block.PosSplat d) rest = refl
two_plain c x (block.Pos e) (block.KwargSplat d) rest = refl
two_plain c x (block.Kwarg y e) b rest = refl
two_plain c x (block.PosSplat e) b rest = refl
two_plain c x (block.KwargSplat e) b rest = refl

-- with several arguments nothing is written apart
pub many_plain : {V F C : Type 0} (c : V → C) (x : Text) (args : List (block.the_data V F)) → 2 ≤ length args → written_function x (args_of c args) ≡ Plain
many_plain c x [] h = absurd (omega (arith, h))
many_plain c x (a ∷ []) h = absurd (omega (arith, h))
many_plain c x (a ∷ b ∷ rest) h = two_plain c x a b (args_of c rest)

-- with one argument, what is not `loop` is not
pub other_plain : {V F C : Type 0} (c : V → C) (x : Text) (args : List (block.the_data V F)) → length args ≡ 1 → bytes_eq x (codes "loop") ≡ false → written_function x (args_of c args) ≡ Plain
other_plain c x [] h n = absurd (omega (arith, h))
other_plain c x (block.Pos e ∷ []) h n = ap (λ b. written_loop b (expr_tree c e)) n
other_plain c x (block.Kwarg y e ∷ []) h n = refl
other_plain c x (block.PosSplat e ∷ []) h n = refl
other_plain c x (block.KwargSplat e ∷ []) h n = refl
other_plain c x (a ∷ b ∷ rest) h n = absurd (omega (arith, h))

-- with none, what is not `super` is not
pub none_written : {V F C : Type 0} (c : V → C) (x : Text) (args : List (block.the_data V F)) (b : Bool) → length args ≡ 0 → bytes_eq x (codes "super") ≡ b → written_function x (args_of c args) ≡ written_super b Plain
none_written c x [] b h n = ap (λ a. written_super a Plain) n
none_written c x (a ∷ rest) b h n = absurd (omega (arith, h))

loop_written : {V F C : Type 0} (c : V → C) (x : Text) (a : block.the_data V F) → bytes_eq x (codes "loop") ≡ true → written_function (codes "loop") (args_of c (a ∷ [])) ≡ written_function x (args_of c (a ∷ []))
loop_written c x (block.Pos e) n = sym (ap (λ b. written_loop b (expr_tree c e)) n)
loop_written c x (block.Kwarg y e) n = refl
loop_written c x (block.PosSplat e) n = refl
loop_written c x (block.KwargSplat e) n = refl

-- with one, `loop` writes what is written of that one
pub one_written : {V F C : Type 0} (c : V → C) (x : Text) (a : block.the_data V F) (args : List (block.the_data V F)) → length args ≡ 1 → a ≡ get_or args 0 a → bytes_eq x (codes "loop") ≡ true → written_function (codes "loop") (args_of c (a ∷ [])) ≡ written_function x (args_of c args)
one_written c x a [] h e n = absurd (omega (arith, h))
one_written {V} {F} c x a (b ∷ []) h e n = ap (λ (d : block.the_data V F). written_function (codes "loop") (args_of c (d ∷ []))) e ∙ loop_written c x b n
one_written c x a (b ∷ d ∷ rest) h e n = absurd (omega (arith, h))

-- the items of a recursion are the only argument of a list
pub items_of_one : {V F C : Type 0} (c : V → C) (o : Output V F) (a : block.the_data V F) (args : List (block.the_data V F)) → length args ≡ 1 → a ≡ get_or args 0 a → ItemsAre c o (node.args_of c (a ∷ [])) → ItemsAre c o (node.args_of c args)
items_of_one c o a [] h e w = absurd (omega (arith, h))
items_of_one {V} {F} c o a (b ∷ []) h e w = subst (λ (d : block.the_data V F). ItemsAre c o (node.args_of c (d ∷ []))) e w
items_of_one c o a (b ∷ d ∷ rest) h e w = absurd (omega (arith, h))
