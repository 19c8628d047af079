-- What a walk through a tree has found so far.
use Rattle.std.specs.Prelude.{◌≡◌, ℕ, ◌<◌, ◌≤◌, Bool, true, false, Option, Some, None, IfSome, List, [], ◌∷◌, ◌++◌, All, length, take}
use Rattle.std.specs.Borrow.{Bor}
use Rattle.minijinja_syntax.specs.Texts.{Text}
use Rattle.minijinja_syntax.specs.declared.tokens.Span.{Span}
use Rattle.minijinja_tree.specs.SpannedErasure.{expr_node}
use Rattle.minijinja_tree_expr.specs.declared.ast.Expr.{Expr as Node}
use Rattle.minijinja_meta.specs.Mentions.{Mention, Way, is_among, free_of, names_of, marked, declared, through_if_any}
use Rattle.minijinja_meta.specs.Occurrences.{found_of, macros_of, IsChain}
use Rattle.minijinja_meta.specs.declared.walker.Walker.{Walker}
use Rattle.minijinja_meta.specs.private.Parts.{HasParts, any_node}
use Rattle.minijinja_meta.specs.private.Scoped.{IsLogged}
use Rattle.minijinja_meta.specs.private.Scoped as scoped

-- the names that are stored where a region is still open
abbrev pub log : {V F : Type 0} → Walker V F → List Text
log s = scoped.log s.scopes

-- all that is noted, where this is met next
abbrev pub noted : {V F C : Type 0} → (V → C) → Walker V F → Way → List (Mention × Bool) × List (Text × Span)
noted c s w = (found_of c s.found.items ++ marked (log s) w, macros_of s.macros.items ++ declared w)

-- occurrences say the same as others where all is wanted, or where only names are: which names
-- occur free
abbrev pub SayTheSame : (names_only : Bool) → List (Mention × Bool) → List (Mention × Bool) → Type 0
SayTheSame true xs ys = (y : Text) → is_among y (names_of (free_of xs)) ≡ is_among y (names_of (free_of ys))
SayTheSame false xs ys = xs ≡ ys

-- so does all that is noted, as far as it is wanted
pub record AreAlike (names_only : Bool) (p q : List (Mention × Bool) × List (Text × Span)) : Type 0 where
  pub found : SayTheSame names_only p.0 q.0
  pub macros : p.1 ≡ q.1

-- Of the first parts some are walked through, and the second ones are left: what is noted where the
-- first ones are met next is what was noted where the second ones are. What was stored before is
-- still on the log, and the same expressions wait.
pub record Walking {V F C : Type 0} (c : V → C) (s t : Walker V F) (all left : Way → Way) : Type 0 where
  pub logged : IsLogged t.scopes
  pub wanted : t.names_only ≡ s.names_only
  pub notes : (w : Way) → AreAlike s.names_only (noted c s (all w)) (noted c t (left w))
  pub chains : All (IsChain c) s.found.items → All (IsChain c) t.found.items
  pub log : (more : List Text) × (log t ≡ log s ++ more)
  pub waiting : t.waiting.items ≡ s.waiting.items

-- these parts are walked through
abbrev pub Walks : {V F C : Type 0} → (V → C) → Walker V F → Walker V F → (Way → Way) → Type 0
Walks c s t v = Walking c s t v (λ w. w)

-- Of the first parts an expression is left that is no attribute and no variable, or none, and the
-- second parts.
pub record Reaches {V F C : Type 0} (c : V → C) (s t : Walker V F) (all : Way → Way) (next : Option (Bor (Node V F))) (left : Way → Way) : Type 0 where
  pub walking : Walking c s t all (λ w. through_if_any (any_node c next) (left w))
  pub parts : IfSome next (λ x. HasParts (expr_node c x.now))

-- nothing is noted yet
pub record IsNew {V F : Type 0} (s : Walker V F) (names_only : Bool) : Type 0 where
  pub logged : IsLogged s.scopes
  pub found : s.found.items ≡ []
  pub macros : s.macros.items ≡ []
  pub log : log s ≡ []
  pub wanted : s.names_only ≡ names_only

-- the names that were stored after the mark are no longer stored, and nothing else changes
pub record Forgets {V F : Type 0} (s t : Walker V F) (mark : ℕ) : Type 0 where
  pub logged : IsLogged t.scopes
  pub found : t.found ≡ s.found
  pub macros : t.macros ≡ s.macros
  pub wanted : t.names_only ≡ s.names_only
  pub waiting : t.waiting ≡ s.waiting
  pub log : log t ≡ take mark (log s)

-- nothing changes but which expressions wait
pub record OnlyWaits {V F : Type 0} (s t : Walker V F) : Type 0 where
  pub found : t.found ≡ s.found
  pub macros : t.macros ≡ s.macros
  pub scopes : t.scopes ≡ s.scopes
  pub wanted : t.names_only ≡ s.names_only

-- one more at the end, if there is one
abbrev pub with_any : {A : Type 0} → List A → Option A → List A
with_any xs None = xs
with_any xs (Some x) = xs ++ x ∷ []

-- one expression more waits, if there is one, and another one is left
pub record Leaves {V F : Type 0} (s t : Walker V F) (before : Option (Bor (Node V F))) (x : Bor (Node V F)) (result : Option (Bor (Node V F))) : Type 0 where
  pub only : OnlyWaits s t
  pub waiting : t.waiting.items ≡ with_any s.waiting.items before
  pub left : result ≡ Some x

-- the last expression waits no longer, if one waits after the mark
abbrev pub IsTaken : {V F : Type 0} → List (Bor (Node V F)) → List (Bor (Node V F)) → ℕ → Option (Bor (Node V F)) → Type 0
IsTaken before after mark None = (after ≡ before) × (length before ≤ mark)
IsTaken before after mark (Some x) = (before ≡ after ++ x ∷ []) × (mark < length before)

pub record Takes {V F : Type 0} (s t : Walker V F) (mark : ℕ) (next : Option (Bor (Node V F))) : Type 0 where
  pub only : OnlyWaits s t
  pub waiting : IsTaken s.waiting.items t.waiting.items mark next
