-- A statement is well formed where its head and its bodies are.
use Rattle.std.proofs.Common.{◌≡◌, refl, true, false}
use Rattle.std.specs.Prelude.{Bool, ◌&&◌}
use Rattle.minijinja_tree.specs.Tree.{Stmt, template, data_text, output, assignment, for_loop, if_cond, with_block, set_block, auto_escape, filter_block, named_block, extends, include, import_all, from_import, declare, call_block, do_call, break_loop, continue_loop, macro}
use Rattle.minijinja_well_formed.specs.private.StatementTests.{is_whole, is_target, takes_arguments, are_names, is_macro_headed, is_inner, are_inner, is_headed, has_bodies}

and-grouped : (a b c : Bool) → (a && (b && c)) ≡ ((a && b) && c)
and-grouped true b c = refl
and-grouped false b c = refl

-- a head with no body
alone : (a : Bool) → a ≡ (a && true)
alone true = refl
alone false = refl

pub inner-sides : {C L : Type 0} (l m : Bool) (s : Stmt C L) → is_inner l m s ≡ (is_headed l m s && has_bodies l m s)
inner-sides l m (template ss) = refl
inner-sides l m (data_text t) = refl
inner-sides l m (output e) = alone (is_whole e)
inner-sides l m (assignment e v) = alone (is_target e && is_whole v)
inner-sides l m (for_loop n t e again o ss other) = refl
inner-sides l m (if_cond e ss other) = refl
inner-sides l m (with_block xs ss) = refl
inner-sides l m (set_block t e ss) = refl
inner-sides l m (auto_escape e ss) = refl
inner-sides l m (filter_block e ss) = refl
inner-sides l m (named_block x required ss) = refl
inner-sides l m (extends e) = alone (is_whole e)
inner-sides l m (include e ignore) = alone (is_whole e)
inner-sides l m (import_all e t) = alone (is_whole e && is_target t)
inner-sides l m (from_import e ns) = alone (is_whole e && are_names ns)
inner-sides l m (declare (macro n x args defaults ss)) = refl
inner-sides l m (call_block e args (macro n x given defaults ss)) = and-grouped (is_whole e && takes_arguments args) (is_macro_headed (macro n x given defaults ss)) (are_inner false true ss)
inner-sides l m (do_call e args) = alone (is_whole e && takes_arguments args)
inner-sides l m break_loop = alone l
inner-sides l m continue_loop = alone l
