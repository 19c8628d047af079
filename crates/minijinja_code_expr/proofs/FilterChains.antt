-- The code of chains of filters whose operand is on top already, while it is being made.
use Rattle.std.proofs.Common.{◌≡◌, ◌≤◌, List, [], ◌∷◌, ◌++◌, Option, Some, None, sym, ap, ◌∙◌, subst}
use Rattle.std.specs.Prelude.{reverse}
use Rattle.std.proofs.lemmas.List.{reverse-append}
use Rattle.minijinja_syntax.specs.Texts.{Text}
use Rattle.minijinja_value.specs.Values.{Functions}
use Rattle.minijinja_tree.specs.Erasure.{expr_tree, optional_of, args_of}
use Rattle.minijinja_tree.specs.Tree as tree
use Rattle.minijinja_tree.specs.Tree.{absent, present}
use Rattle.minijinja_tree.specs.WellFormed.{IsChainOfFilters, AreArguments, arg_count, most_arguments}
use Rattle.minijinja_tree_expr.specs.declared.ast.Expr.{Expr}
use Rattle.minijinja_tree_expr.specs.declared.ast.Filter.{Filter}
use Rattle.minijinja_semantics.specs.Layout as layout
use Rattle.minijinja_semantics.specs.Pieces.{Piece, ◌▸◌}
use Rattle.minijinja_code_expr.specs.private.Filtering.{filter_shown}
use Rattle.minijinja_code_expr.specs.declared.filters.WaitingFilter.{WaitingFilter}
use Rattle.minijinja_emitter.specs.internal.Making.{Made, Adds}
use Rattle.minijinja_code_expr.specs.internal.Parts.{given}
use Rattle.minijinja_emitter.proofs.Adding.{adds_then}

-- the arguments of the outermost filter
chain_arguments : {C : Type 0} (o : tree.Optional C) (x : Text) (args : tree.Args C) → IsChainOfFilters (tree.filter o x args) → AreArguments args
chain_arguments absent x args w = w.0
chain_arguments (present e) x args w = w.1

chain_few : {C : Type 0} (o : tree.Optional C) (x : Text) (args : tree.Args C) → IsChainOfFilters (tree.filter o x args) → arg_count args ≤ most_arguments
chain_few absent x args w = w.1
chain_few (present e) x args w = w.2

module _ {V K C : Type 0} (c : V → C) where
  pub filter_arguments : (n : Filter V K) → IsChainOfFilters (filter_shown c n) → AreArguments (args_of c n.args.items)
  filter_arguments n w = chain_arguments (optional_of c n.expr) n.name.now (args_of c n.args.items) w

  pub filter_few : (n : Filter V K) → IsChainOfFilters (filter_shown c n) → arg_count (args_of c n.args.items) ≤ most_arguments
  filter_few n w = chain_few (optional_of c n.expr) n.name.now (args_of c n.args.items) w

  with_operand : (n : Filter V K) (operand : Expr V K) → n.expr ≡ Some operand → filter_shown c n ≡ tree.filter (present (expr_tree c operand)) n.name.now (args_of c n.args.items)
  with_operand n operand e = ap (λ (o : Option (Expr V K)). tree.filter (optional_of c o) n.name.now (args_of c n.args.items)) e

  pub operand_chain : (n : Filter V K) (operand : Expr V K) → n.expr ≡ Some operand → IsChainOfFilters (filter_shown c n) → IsChainOfFilters (expr_tree c operand)
  operand_chain n operand e w = let k = subst IsChainOfFilters (with_operand n operand e) w in k.0

module _ {V K C F : Type 0} (f : Functions C F) (c : V → C) where
  -- what a filter adds after its operand
  abbrev pub applied : Filter V K → Piece C
  applied n = given f (args_of c n.args.items) 1 ▸ layout.apply_filter n.name.now (layout.argument_count (args_of c n.args.items) 1)

  module _ (old : Made C) (whole : tree.Expr C) where
    -- with this made, the filters that wait, the innermost first, make the whole
    abbrev pub Rest : List (WaitingFilter V K) → Made C → Type 0
    Rest [] now = Adds old now (layout.expr f whole)
    Rest (w ∷ ws) now =
        AreArguments (args_of c w.filter.now.args.items) × (arg_count (args_of c w.filter.now.args.items) ≤ most_arguments) ×
        ((later : Made C) → Adds now later (applied w.filter.now) → Rest ws later)

    -- whoever makes what is left of the chain leaves the filters that wait
    abbrev pub Going : Filter V K → List (WaitingFilter V K) → Type 0
    Going n ws = IsChainOfFilters (filter_shown c n) × ((later : Made C) → Adds old later (layout.expr f (filter_shown c n)) → Rest ws later)

    pub going_begin : (n : Filter V K) (ws : List (WaitingFilter V K)) → ws ≡ [] → filter_shown c n ≡ whole → IsChainOfFilters whole → Going n (reverse ws)
    going_begin n ws none e w =
        subst (λ (l : List (WaitingFilter V K)). Going n (reverse l)) (sym none) (subst IsChainOfFilters (sym e) w, λ later s. subst (λ t. Adds old later (layout.expr f t)) e s)

    -- one filter more waits
    pub going_more : (n next : Filter V K) (operand : Expr V K) (ws xs : List (WaitingFilter V K)) (w : WaitingFilter V K) →
        w.filter.now ≡ n → n.expr ≡ Some operand → filter_shown c next ≡ expr_tree c operand → xs ≡ ws ++ w ∷ [] → Going n (reverse ws) → Going next (reverse xs)
    going_more n next operand ws xs w at e same more g =
        let given_operand : (later : Made C) → Adds old later (layout.expr f (expr_tree c operand)) → (end : Made C) → Adds later end (applied n) → Rest (reverse ws) end =
        λ later s end t. g.1 end (subst (λ k. Adds old end (layout.expr f k)) (sym (with_operand c n operand e)) (adds_then s t)) in
        let waiting : (m : Filter V K) → m ≡ n → (later : Made C) → Adds old later (layout.expr f (filter_shown c next)) →
        AreArguments (args_of c m.args.items) × (arg_count (args_of c m.args.items) ≤ most_arguments) × ((end : Made C) → Adds later end (applied m) → Rest (reverse ws) end) =
        λ m is later s.
        let s' : Adds old later (layout.expr f (expr_tree c operand)) = subst (λ k. Adds old later (layout.expr f k)) same s in
        let held : AreArguments (args_of c n.args.items) × (arg_count (args_of c n.args.items) ≤ most_arguments) × ((end : Made C) → Adds later end (applied n) → Rest (reverse ws) end) =
        (filter_arguments c n g.0, filter_few c n g.0, given_operand later s') in
        subst (λ (k : Filter V K). AreArguments (args_of c k.args.items) × (arg_count (args_of c k.args.items) ≤ most_arguments) × ((end : Made C) → Adds later end (applied k) → Rest (reverse ws) end)) (sym is) held in (
          subst IsChainOfFilters (sym same) (operand_chain c n operand e g.0),
          λ later s. subst (λ l. Rest l later) (sym (ap reverse more ∙ reverse-append ws (w ∷ []))) (waiting w.filter.now at later s),
        )

    -- the innermost filter, whose operand is there already
    pub going_last : (n : Filter V K) (ws : List (WaitingFilter V K)) (now : Made C) → n.expr ≡ None → Adds old now (applied n) → Going n ws → Rest ws now
    going_last n ws now e s g =
        let alone : filter_shown c n ≡ tree.filter absent n.name.now (args_of c n.args.items) = ap (λ (o : Option (Expr V K)). tree.filter (optional_of c o) n.name.now (args_of c n.args.items)) e in
        g.1 now (subst (λ k. Adds old now (layout.expr f k)) (sym alone) s)

    popped : (ws xs : List (WaitingFilter V K)) (w : WaitingFilter V K) (now : Made C) → xs ≡ ws ++ w ∷ [] → Rest (reverse xs) now → Rest (w ∷ reverse ws) now
    popped ws xs w now e r = subst (λ l. Rest l now) (ap reverse e ∙ reverse-append ws (w ∷ [])) r

    pub rest_next : (ws xs : List (WaitingFilter V K)) (w : WaitingFilter V K) (now next : Made C) → xs ≡ ws ++ w ∷ [] → Adds now next (applied w.filter.now) → Rest (reverse xs) now → Rest (reverse ws) next
    rest_next ws xs w now next e s r = let k = popped ws xs w now e r in k.2 next s
