-- What is written after what was written before.
use Rattle.std.proofs.Common.{◌≡◌, ℕ, List, [], ◌∷◌, ◌++◌, Option, None, Some, ap, append_assoc, refl, subst, sym, ◌∙◌}
use Rattle.std.specs.Prelude.{Result, Ok, Err, OnOk, map}
use Rattle.std.specs.List.{flat_map}
use Rattle.std.specs.Io.KnownBytes.{Appends, Keeps}
use Rattle.std.proofs.lemmas.List.{append-nil}
use Rattle.std.proofs.lemmas.List.Concat.{flat_map-append}
use Rattle.minijinja_syntax.specs.Texts.{Text}
use Rattle.mjc_commands.specs.Watched.{IsKept, IsWritten, stream_of}
use Rattle.mjc_commands.specs.declared.watched.Watched.{Watched}

appends_nothing : (o : Option (List ℕ)) → Appends o o []
appends_nothing None = tt
appends_nothing (Some xs) = sym (append-nil xs)

appends_more : (a b c : Option (List ℕ)) (x y : List ℕ) → Appends a b x → Appends b c y → Appends a c (x ++ y)
appends_more None b c x y p q = tt
appends_more (Some xs) None c x y p q = absurd p
appends_more (Some xs) (Some ys) None x y p q = absurd q
appends_more (Some xs) (Some ys) (Some zs) x y p q = q ∙ ap (λ l. l ++ y) p ∙ append_assoc xs x y

appends_kept : (a b c : Option (List ℕ)) (x : List ℕ) → Appends a b x → Keeps b c → Appends a c x
appends_kept None b c x p q = tt
appends_kept (Some xs) None c x p q = absurd p
appends_kept (Some xs) (Some ys) None x p q = absurd q
appends_kept (Some xs) (Some ys) (Some zs) x p q = q ∙ p

each_of : {X Y : Type 0} (line : Y → Text) (seen : X → Y) (xs : List X) → flat_map (λ x. line (seen x)) xs ≡ flat_map line (map seen xs)
each_of line seen [] = refl
each_of line seen (x ∷ xs) = ap (λ t. line (seen x) ++ t) (each_of line seen xs)

module _ {W : Type 0} {contents : W → Option (List ℕ)} where
  pub nothing_written : (a : Watched W) → IsWritten contents a a []
  nothing_written a = record { appended = appends_nothing (contents (stream_of a)); watched = refl }

  pub written_more : {a b c : Watched W} {x y : Text} → IsWritten contents a b x → IsWritten contents b c y → IsWritten contents a c (x ++ y)
  written_more {a = a} {b = b} {c = c} {x = x} {y = y} p q = record {
    appended = appends_more (contents (stream_of a)) (contents (stream_of b)) (contents (stream_of c)) x y p.appended q.appended;
    watched = q.watched ∙ p.watched;
  }

  -- a flush writes nothing
  pub written_kept : {a b c : Watched W} {x : Text} → IsWritten contents a b x → IsKept contents b c → IsWritten contents a c x
  written_kept {a = a} {b = b} {c = c} {x = x} p q = record {
    appended = appends_kept (contents (stream_of a)) (contents (stream_of b)) (contents (stream_of c)) x p.appended q.kept;
    watched = q.watched ∙ p.watched;
  }

  pub written_as : {a b : Watched W} {x y : Text} → x ≡ y → IsWritten contents a b x → IsWritten contents a b y
  written_as {a = a} {b = b} e p = subst (IsWritten contents a b) e p

  -- a line more is written
  pub line_more : {X : Type 0} (line : X → Text) {a b c : Watched W} (xs : List X) (x : X) → IsWritten contents a b (flat_map line xs) → IsWritten contents b c (line x) → IsWritten contents a c (flat_map line (xs ++ x ∷ []))
  line_more line xs x p q = written_as (sym (flat_map-append line xs (x ∷ []) ∙ ap (λ t. flat_map line xs ++ t) (append-nil (line x)))) (written_more p q)

  -- a line of each is written
  pub each_written : {X Y : Type 0} (line : Y → Text) (seen : X → Y) {a b : Watched W} (xs : List X) (ys : List Y) → map seen xs ≡ ys → IsWritten contents a b (flat_map (λ x. line (seen x)) xs) → IsWritten contents a b (flat_map line ys)
  each_written line seen xs ys e p = written_as (each_of line seen xs ∙ ap (flat_map line) e) p

  -- so it is after a flush, also where that failed
  pub flushed : {T E : Type 0} (r : Result T E) {a b : Watched W} (c : Watched W) {x : Text} → IsWritten contents a b x → IsKept contents b c → OnOk r (IsWritten contents a c x)
  flushed (Ok v) c p q = written_kept p q
  flushed (Err e) c p q = tt

-- what a call has written, if it has not failed
pub written_on_ok : {T E W : Type 0} (contents : W → Option (List ℕ)) (r : Result T E) (a b : Watched W) {x y : Text} → x ≡ y → OnOk r (IsWritten contents a b x) → OnOk r (IsWritten contents a b y)
written_on_ok contents (Ok v) a b e p = written_as e p
written_on_ok contents (Err f) a b e p = p
