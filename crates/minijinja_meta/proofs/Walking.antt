-- Walks through one part after another.
use Rattle.std.proofs.Common.{◌≡◌, ℕ, ◌++◌, refl, sym, ap, ap₂, ◌∙◌, subst, append_assoc, length, take}
use Rattle.std.specs.Prelude.{Bool, true, false, not, ◌||◌, List, [], ◌∷◌, map, Result, Ok, Err, OnOk, All}
use Rattle.std.specs.Borrow.{Bor}
use Rattle.std.proofs.lemmas.List.{append-nil, map-append}
use Rattle.std.proofs.lemmas.List.Elements.{All-push}
use Rattle.std.proofs.Math.Seq.{take-append_seam}
use Rattle.minijinja_syntax.specs.Texts.{Text}
use Rattle.minijinja_syntax.specs.declared.tokens.Span.{Span}
use Rattle.minijinja_tree.specs.SpannedErasure.{expr_node}
use Rattle.minijinja_meta.specs.Mentions.{Mention, Way, end, stores, declares, region, is_among, marked, declared, through}
use Rattle.minijinja_meta.specs.Occurrences.{mention_of, found_of, macros_of, IsChain}
use Rattle.minijinja_meta.specs.declared.mentions.Occurrence.{Occurrence}
use Rattle.minijinja_meta.specs.declared.walker.Walker.{Walker}
use Rattle.minijinja_meta.specs.private.Scoped.{IsLogged, Stores}
use Rattle.minijinja_meta.specs.private.Walked.{Forgets, Walking, Walks, log, noted}
use Rattle.minijinja_meta.proofs.Alike.{alike, alike-on, alike-same, as-wanted, free_names, is_among-append, remembered, says-joined, unwanted}
use Rattle.minijinja_meta.proofs.Marking.{marked-same}
use Rattle.minijinja_meta.proofs.Scoping.{same-text}

-- ---- lists

joined : {A : Type 0} (xs zs bs ys : List A) → xs ++ zs ≡ ys ++ [] → xs ++ (zs ++ bs) ≡ ys ++ bs
joined xs zs bs ys h = sym (append_assoc xs zs bs) ∙ ap (λ l. l ++ bs) (h ∙ append-nil ys)

-- one more at the end of the first list
pushed : {A : Type 0} (xs ys zs : List A) (a : A) → zs ≡ xs ++ a ∷ [] → xs ++ a ∷ ys ≡ zs ++ ys
pushed xs ys zs a h = sym (append_assoc xs (a ∷ []) ys) ∙ ap (λ l. l ++ ys) (sym h)

back : (mark : ℕ) (xs ys more : List Text) → mark ≡ length xs → ys ≡ xs ++ more → take mark ys ≡ xs
back mark xs ys more h e = ap (λ m. take m ys) h ∙ ap (take (length xs)) e ∙ take-append_seam xs more

-- ---- one part after another

module _ {V F C : Type 0} (c : V → C) where
  pub walking-begins : (s : Walker V F) (all : Way → Way) → IsLogged s.scopes → Walking c s s all all
  walking-begins s all h = record { logged = h; wanted = refl; notes = λ w. alike s.names_only _; chains = λ all. all; log = ([], sym (append-nil (log s))); waiting = refl }

  pub walking-on : (s t u : Walker V F) (all left left' more : Way → Way) → Walking c s t all left → Walking c t u left' more → ((w : Way) → left w ≡ left' w) → Walking c s u all more
  walking-on s t u all left left' more h k parts = record {
    logged = k.logged;
    wanted = k.wanted ∙ h.wanted;
    notes = λ w. alike-on (h.notes w) (alike-on (alike-same (ap (noted c t) (parts w))) (as-wanted h.wanted (k.notes w)));
    chains = λ are. k.chains (h.chains are);
    log = (h.log.0 ++ k.log.0, k.log.1 ∙ ap (λ l. l ++ k.log.0) h.log.1 ∙ append_assoc (log s) h.log.0 k.log.0);
    waiting = k.waiting ∙ h.waiting;
  }

  pub walking-goes-on : (s t u : Walker V F) (all left v more : Way → Way) → Walking c s t all left → Walks c t u v → ((w : Way) → left w ≡ v (more w)) → Walking c s u all more
  walking-goes-on s t u all left v more h k parts = record {
    logged = k.logged;
    wanted = k.wanted ∙ h.wanted;
    notes = λ w. alike-on (h.notes w) (alike-on (alike-same (ap (noted c t) (parts w))) (as-wanted h.wanted (k.notes (more w))));
    chains = λ are. k.chains (h.chains are);
    log = (h.log.0 ++ k.log.0, k.log.1 ∙ ap (λ l. l ++ k.log.0) h.log.1 ∙ append_assoc (log s) h.log.0 k.log.0);
    waiting = k.waiting ∙ h.waiting;
  }

  pub walking-left : (s t : Walker V F) (all left left' : Way → Way) → Walking c s t all left → ((w : Way) → left w ≡ left' w) → Walking c s t all left'
  walking-left s t all left left' h same = record { logged = h.logged; wanted = h.wanted; notes = λ w. alike-on (h.notes w) (alike-same (ap (noted c t) (same w))); chains = h.chains; log = h.log; waiting = h.waiting }

  pub walking-ends : (s t : Walker V F) (all left : Way → Way) → Walking c s t all left → ((w : Way) → left w ≡ w) → Walks c s t all
  walking-ends s t all left h none = record { logged = h.logged; wanted = h.wanted; notes = λ w. alike-on (h.notes w) (alike-same (ap (noted c t) (none w))); chains = h.chains; log = h.log; waiting = h.waiting }

  pub walks-on : (s t u : Walker V F) (v v' : Way → Way) → Walks c s t v → Walks c t u v' → Walks c s u (λ w. v (v' w))
  walks-on s t u v v' h k = record {
    logged = k.logged;
    wanted = k.wanted ∙ h.wanted;
    notes = λ w. alike-on (h.notes (v' w)) (as-wanted h.wanted (k.notes w));
    chains = λ are. k.chains (h.chains are);
    log = (h.log.0 ++ k.log.0, k.log.1 ∙ ap (λ l. l ++ k.log.0) h.log.1 ∙ append_assoc (log s) h.log.0 k.log.0);
    waiting = k.waiting ∙ h.waiting;
  }

  -- the last one may fail
  pub then-walks : {R E : Type 0} (r : Result R E) (s t u : Walker V F) (v v' : Way → Way) → Walks c s t v → OnOk r (Walks c t u v') → OnOk r (Walks c s u (λ w. v (v' w)))
  then-walks (Err e) s t u v v' h k = tt
  then-walks (Ok x) s t u v v' h k = walks-on s t u v v' h k

  pub walks-as : {R E : Type 0} (r : Result R E) (s t : Walker V F) (v v' : Way → Way) → v ≡ v' → OnOk r (Walks c s t v) → OnOk r (Walks c s t v')
  walks-as r s t v v' same h = subst (λ v. OnOk r (Walks c s t v)) same h

  -- ---- what is noted

  -- a region ends: the names that were stored since its mark are stored no longer
  pub region-ends : (s t u : Walker V F) (v : Way → Way) (mark : ℕ) → Walks c s t v → mark ≡ length (log s) → Forgets t u mark → Walks c s u (λ w. region (v end) w)
  region-ends s t u v mark h m k =
      let still : log u ≡ log s = k.log ∙ back mark (log s) (log t) h.log.0 m h.log.1 in
      let found : found_of c u.found.items ≡ found_of c t.found.items = ap (λ l. found_of c l.items) k.found in
      let macros : macros_of u.macros.items ≡ macros_of t.macros.items = ap (λ l. macros_of l.items) k.macros in
      let now : (w : Way) → noted c u w ≡ (found_of c t.found.items ++ marked (log s) w, macros_of t.macros.items ++ declared w) =
      λ w. ap₂ (λ a b. (a, b)) (ap₂ (λ l n. l ++ marked n w) found still) (ap (λ l. l ++ declared w) macros) in
      record {
        logged = k.logged;
        wanted = k.wanted ∙ h.wanted;
        notes = λ w. alike-on
            (record {
              found = says-joined s.names_only (found_of c s.found.items) (marked (log s) (v end)) (marked (log s) w) (found_of c t.found.items) (h.notes end).found;
              macros = joined (macros_of s.macros.items) (declared (v end)) (declared w) (macros_of t.macros.items) (h.notes end).macros;
            })
            (alike-same (sym (now w)));
        chains = λ are. subst (λ l. All (IsChain c) l.items) (sym k.found) (h.chains are);
        log = ([], still ∙ sym (append-nil (log s)));
        waiting = ap (λ l. l.items) k.waiting ∙ h.waiting;
      }

  -- a variable occurs
  pub occurs-walks : (s t : Walker V F) (o : Occurrence V F) → IsLogged s.scopes → IsChain c o → o.is_free ≡ not (is_among o.name.now (log s)) →
      t.found.items ≡ s.found.items ++ o ∷ [] → t.macros ≡ s.macros → t.scopes ≡ s.scopes → t.names_only ≡ s.names_only → t.waiting ≡ s.waiting → Walks c s t (through (expr_node c o.chain.now))
  occurs-walks s t o h chain free found macros scopes wanted waiting =
      let f : Occurrence V F → Mention × Bool = λ o. (mention_of c o, o.is_free) in
      let more : found_of c t.found.items ≡ found_of c s.found.items ++ (mention_of c o, not (is_among o.name.now (log s))) ∷ [] =
      ap (map f) found ∙ map-append f s.found.items (o ∷ []) ∙ ap (λ b. found_of c s.found.items ++ (mention_of c o, b) ∷ []) free in
      record {
        logged = subst IsLogged (sym scopes) h;
        wanted = wanted;
        notes = λ w. alike-same
            (ap (noted c s) (chain w)
            ∙ ap₂ (λ a b. (a, b))
            (pushed (found_of c s.found.items) (marked (log s) w) (found_of c t.found.items) (mention_of c o, not (is_among o.name.now (log s))) more
            ∙ ap (λ z. found_of c t.found.items ++ marked (map (λ x. x.now) z.log.items) w) (sym scopes))
            (ap (λ l. macros_of l.items ++ declared w) (sym macros)));
        chains = λ are. subst (All (IsChain c)) (sym found) (All-push (IsChain c) s.found.items o are chain);
        log = ([], ap (λ z. map (λ x. x.now) z.log.items) scopes ∙ sym (append-nil (log s)));
        waiting = ap (λ l. l.items) waiting;
      }

  -- a variable occurs that is stored, where only names are wanted
  pub stored-walks : (s : Walker V F) (o : Occurrence V F) → IsLogged s.scopes → IsChain c o → s.names_only ≡ true → not (is_among o.name.now (log s)) ≡ false → Walks c s s (through (expr_node c o.chain.now))
  stored-walks s o h chain names stored = record {
    logged = h;
    wanted = refl;
    notes = λ w. alike-on (alike-same (ap (noted c s) (chain w)))
        (record { found = unwanted s.names_only (not (is_among o.name.now (log s))) (mention_of c o) (found_of c s.found.items) (marked (log s) w) names stored; macros = refl });
    chains = λ are. are;
    log = ([], sym (append-nil (log s)));
    waiting = refl;
  }

  -- what was found free last
  pub found-last : (os : List (Occurrence V F)) (o : Occurrence V F) (ps : List (Occurrence V F)) → ps ≡ os ++ o ∷ [] → o.is_free ≡ true → is_among o.name.now (free_names (found_of c ps)) ≡ true
  found-last os o ps is free =
      ap (λ l. is_among o.name.now (free_names l)) (ap (map (λ o. (mention_of c o, o.is_free))) is ∙ map-append (λ o. (mention_of c o, o.is_free)) os (o ∷ []))
      ∙ is_among-append o.name.now (found_of c os) ((mention_of c o, o.is_free) ∷ [])
      ∙ ap (λ b. is_among o.name.now (free_names (found_of c os)) || is_among o.name.now (free_names ((mention_of c o, b) ∷ []))) free
      ∙ ap (λ b. is_among o.name.now (free_names (found_of c os)) || (b || false)) (same-text o.name.now) ∙ or-true (is_among o.name.now (free_names (found_of c os)))
    where
      or-true : (b : Bool) → (b || true) ≡ true
      or-true true = refl
      or-true false = refl

  -- a name that was found free is stored, where only names are wanted
  pub remembers : (s t : Walker V F) (x : Text) → s.names_only ≡ true → is_among x (free_names (found_of c s.found.items)) ≡ true →
      Stores s.scopes t.scopes x → t.found ≡ s.found → t.macros ≡ s.macros → t.names_only ≡ s.names_only → t.waiting ≡ s.waiting → Walks c s t (λ w. w)
  remembers s t x names there h found macros wanted waiting = record {
    logged = h.logged;
    wanted = wanted;
    notes = λ w. as-wanted (sym names)
        (record {
          found = λ y.
              remembered x (log s) (found_of c s.found.items) w there y
              ∙ ap₂ (λ l os. is_among y (free_names (found_of c l.items ++ os))) (sym found) (marked-same (x ∷ log s) (log t) (λ y. sym (h.has y)) w);
          macros = ap (λ l. macros_of l.items ++ declared w) (sym macros);
        });
    chains = λ are. subst (λ l. All (IsChain c) l.items) (sym found) are;
    log = h.log;
    waiting = ap (λ l. l.items) waiting;
  }

  -- a name is stored
  pub stores-walks : (s t : Walker V F) (x : Text) → Stores s.scopes t.scopes x → t.found ≡ s.found → t.macros ≡ s.macros → t.names_only ≡ s.names_only → t.waiting ≡ s.waiting → Walks c s t (stores x)
  stores-walks s t x h found macros wanted waiting = record {
    logged = h.logged;
    wanted = wanted;
    notes = λ w. alike-same
        (ap₂ (λ a b. (a, b))
        (ap₂ (λ l os. found_of c l.items ++ os) (sym found) (marked-same (x ∷ log s) (log t) (λ y. sym (h.has y)) w))
        (ap (λ l. macros_of l.items ++ declared w) (sym macros)));
    chains = λ are. subst (λ l. All (IsChain c) l.items) (sym found) are;
    log = h.log;
    waiting = ap (λ l. l.items) waiting;
  }

  -- a macro statement stores its name
  pub declares-walks : (s t : Walker V F) (x : Bor Text) (at : Span) → Stores s.scopes t.scopes x.now → t.found ≡ s.found → t.macros.items ≡ s.macros.items ++ (x, at) ∷ [] → t.names_only ≡ s.names_only → t.waiting ≡ s.waiting →
      Walks c s t (λ w. declares x.now at (stores x.now w))
  declares-walks s t x at h found macros wanted waiting =
      let g : Bor Text × Span → Text × Span = λ m. (m.0.now, m.1) in
      let more : macros_of t.macros.items ≡ macros_of s.macros.items ++ (x.now, at) ∷ [] = ap (map g) macros ∙ map-append g s.macros.items ((x, at) ∷ []) in
      record {
        logged = h.logged;
        wanted = wanted;
        notes = λ w. alike-same
            (ap₂ (λ a b. (a, b))
            (ap₂ (λ l os. found_of c l.items ++ os) (sym found) (marked-same (x.now ∷ log s) (log t) (λ y. sym (h.has y)) w))
            (pushed (macros_of s.macros.items) (declared w) (macros_of t.macros.items) (x.now, at) more));
        chains = λ are. subst (λ l. All (IsChain c) l.items) (sym found) are;
        log = h.log;
        waiting = ap (λ l. l.items) waiting;
      }

  -- storing may fail

  pub then-stores : {R E : Type 0} (r : Result R E) (s t : Walker V F) (x : Text) → OnOk r (Stores s.scopes t.scopes x) → t.found ≡ s.found → t.macros ≡ s.macros → t.names_only ≡ s.names_only → t.waiting ≡ s.waiting → OnOk r (Walks c s t (stores x))
  then-stores (Err e) s t x h found macros wanted waiting = tt
  then-stores (Ok z) s t x h found macros wanted waiting = stores-walks s t x h found macros wanted waiting

  pub then-declares : {R E : Type 0} (r : Result R E) (s t : Walker V F) (x : Bor Text) (at : Span) → OnOk r (Stores s.scopes t.scopes x.now) → t.found ≡ s.found → t.macros.items ≡ s.macros.items ++ (x, at) ∷ [] → t.names_only ≡ s.names_only → t.waiting ≡ s.waiting →
      OnOk r (Walks c s t (λ w. declares x.now at (stores x.now w)))
  then-declares (Err e) s t x at h found macros wanted waiting = tt
  then-declares (Ok z) s t x at h found macros wanted waiting = declares-walks s t x at h found macros wanted waiting
