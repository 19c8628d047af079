-- The way through statements, one at a time.
use Rattle.std.proofs.Common.{◌≡◌, ℕ, ◌+◌, ◌<◌, ◌≤◌, refl, sym, ap, ◌∙◌, length, drop, get_or}
use Rattle.std.specs.Prelude.{List, [], map}
use Rattle.std.proofs.lemmas.List.{append-nil, at_drop_more, at_drop_all}
use Rattle.minijinja_tree.specs.SpannedErasure.{stmt_node}
use Rattle.minijinja_tree.specs.SpannedTrees as tree
use Rattle.minijinja_tree.specs.SpannedTrees.{stmts_of}
use Rattle.minijinja_tree.specs.declared.ast.Stmt.{Stmt}
use Rattle.minijinja_meta.specs.Mentions.{Way, through_stmt, through_stmts}
use Rattle.minijinja_meta.specs.declared.walker.Walker.{Walker}
use Rattle.minijinja_meta.specs.private.Scoped.{IsLogged}
use Rattle.minijinja_meta.specs.private.Walked.{Walks, log, noted}
use Rattle.minijinja_meta.proofs.Alike.{alike-same}

module _ {V F C : Type 0} (c : V → C) where
  pub next-stmt : (xs : List (Stmt V F)) (i : ℕ) (x : Stmt V F) → i < length xs → x ≡ get_or xs i x → (w : Way) →
      through_stmts (stmts_of (map (stmt_node c) (drop i xs))) w ≡ through_stmt (stmt_node c x) (through_stmts (stmts_of (map (stmt_node c) (drop (i + 1) xs))) w)
  next-stmt xs i x within h w =
      at_drop_more (λ ys. through_stmts (stmts_of (map (stmt_node c) ys)) w) xs i x within
      ∙ ap (λ z. through_stmt (stmt_node c z) (through_stmts (stmts_of (map (stmt_node c) (drop (i + 1) xs))) w)) (sym h)

  pub no-stmts : (xs : List (Stmt V F)) (i : ℕ) → length xs ≤ i → (w : Way) → through_stmts (stmts_of (map (stmt_node c) (drop i xs))) w ≡ w
  no-stmts xs i past w = at_drop_all (λ ys. through_stmts (stmts_of (map (stmt_node c) ys)) w) xs i past

  -- a statement with nothing on its way
  pub walking-left-out : (s : Walker V F) → IsLogged s.scopes → (t t' : tree.Stmt C) → t ≡ t' → ((w : Way) → through_stmt t' w ≡ w) → Walks c s s (through_stmt t)
  walking-left-out s h t t' is none = record {
    logged = h;
    wanted = refl;
    notes = λ w. alike-same (ap (noted c s) (ap (λ u. through_stmt u w) is ∙ none w));
    chains = λ are. are;
    log = ([], sym (append-nil (log s)));
    waiting = refl;
  }
