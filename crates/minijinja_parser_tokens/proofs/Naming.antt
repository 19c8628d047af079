-- A new name of a block, by the set of the names so far.
use Rattle.std.proofs.Common.{◌≡◌, Bool, true, false, List, [], ◌∷◌, ◌||◌, if◌then◌else◌, Err, refl, sym, ap, ap₂, ◌∙◌}
use Rattle.std.specs.declared.cmp.Ordering.{Ordering}
use Rattle.std.specs.declared.cmp.Ordering.TheVariants.{Less, Equal, Greater}
use Rattle.std.specs.Ordering.{is_eq, match_ordering, nat_cmp}
use Rattle.std.specs.BTreeSet.{insert_key}
use Rattle.std.specs.Cmp.Lexicographic.{slice_cmp, texts_ties}
use Rattle.std.specs.List.{list_any}
use Rattle.std.specs.Prelude.{map}
use Rattle.std.specs.Str.{bytes_eq}
use Rattle.minijinja_syntax.specs.Texts.{Text}
use Rattle.minijinja_syntax.specs.Streams.{SpannedTok}
use Rattle.minijinja_syntax.specs.declared.tokens.Span.{Span}
use Rattle.minijinja_grammar.specs.Places.{Place}
use Rattle.minijinja_grammar.specs.internal.Forms.{Read, giving, got, is_given, misfit, new_name, one, pure, read_then, reads, short, wrong, ◌>>◌}
use Rattle.minijinja_grammar.specs.internal.ExprForms.{ident_and_span}
use Rattle.minijinja_parser_tokens.specs.internal.Forms.{new_ident_and_span}
use Rattle.minijinja_parser_tokens.specs.internal.Reads.{Misfits, Reads}
use Rattle.minijinja_parser_tokens.specs.declared.refusal.Refusal.{Refusal}
use Rattle.minijinja_parser_tokens.specs.declared.refusal.Refusal.TheVariants.{OutOfMemory, Ended, Wrong}

module _ {K : Type 0} (now : K → Text) where
  abbrev order : K → K → Ordering
  order x y = slice_cmp nat_cmp (now x) (now y)

  -- whether it is in the set
  pub has_is : (x : K) (ks : List K) → list_any (λ k. is_eq (order x k)) ks ≡ list_any (bytes_eq (now x)) (map now ks)
  has_is x [] = refl
  has_is x (k ∷ ks) = ap₂ (λ a b. a || b) (sym (texts_ties (now x) (now k))) (has_is x ks)

  -- the set with it
  pub inserted_is : (ks : List K) (x : K) → map now (insert_key order ks x) ≡ insert_key (slice_cmp nat_cmp) (map now ks) (now x)
  inserted_is [] x = refl
  inserted_is (k ∷ ks) x = go (order x k) (inserted_is ks x)
    where
      go : (o : Ordering) → map now (insert_key order ks x) ≡ insert_key (slice_cmp nat_cmp) (map now ks) (now x) →
          map now (match_ordering o (x ∷ k ∷ ks) (k ∷ ks) (k ∷ insert_key order ks x)) ≡
          match_ordering o (now x ∷ now k ∷ map now ks) (now k ∷ map now ks) (now k ∷ insert_key (slice_cmp nat_cmp) (map now ks) (now x))
      go Less h = refl
      go Equal h = refl
      go Greater h = ap (λ xs. now k ∷ xs) h

-- a new name, by the identifier taken
abbrev pub if_new : Text × Span → Place → Read (Text × Span)
if_new x q = if is_given x.0 q then misfit q q.tokens else got x (giving x.0 q)

pub new_ident_is : (p : Place) → reads new_ident_and_span p ≡ read_then (reads (one ident_and_span) p) if_new
unfolding reads
new_ident_is p = go (reads (one ident_and_span) p)
  where
    named : (x : Text × Span) (b : Bool) (q : Place) (ts : List SpannedTok) →
        read_then (if b then misfit q ts else got (tt {0}) (giving x.0 q)) (λ _ r. got x r) ≡ (if b then misfit q ts else got x (giving x.0 q))
    named x true q [] = refl
    named x true q (t ∷ ts) = refl
    named x false q ts = refl

    go : (o : Read (Text × Span)) → read_then o (λ x q. reads (new_name x.0 >> pure x) q) ≡ read_then o if_new
    go (got x q) = named x (is_given x.0 q) q q.tokens
    go (short q) = refl
    go (wrong q) = refl

module _ (p q : Place) (x : Text × Span) (h : reads (one ident_and_span) p ≡ got x q) where
  pub given_first : is_given x.0 q ≡ false → reads new_ident_and_span p ≡ got x (giving x.0 q)
  given_first k = new_ident_is p ∙ rw (h, k) refl

  pub given_again : is_given x.0 q ≡ true → reads new_ident_and_span p ≡ misfit q q.tokens
  given_again k = new_ident_is p ∙ rw (h, k) refl

-- where no token fits
pub refused : {A X : Type 0} (view : X → A) (read : Read A) (q r : Place) (w : Refusal) → read ≡ misfit q q.tokens → q ≡ r → Misfits r w → Reads view read (Err w) r
refused view read q r OutOfMemory e i h = absurd h
refused view read q r (Ended w) e i h = e ∙ rw (i, h) refl
refused view read q r (Wrong w) e i h = e ∙ rw (i, h.2) refl
