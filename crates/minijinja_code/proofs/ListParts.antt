-- The list of a block while it is being made.
use Rattle.std.proofs.Common.{◌≡◌, ◌≢◌, ◌<◌, ◌^◌, List, [], ◌∷◌, ◌++◌, length, map, Option, Some, refl, sym, ap, ◌∙◌, subst, arith}
use Rattle.std.specs.Prelude.{bytes_eq, cond, false}
use Rattle.std.specs.Ordering.{nat_cmp}
use Rattle.std.specs.Cmp.Lexicographic.{slice_cmp}
use Rattle.std.specs.Borrow.{Bor}
use Rattle.std.specs.BTreeMap.{BTreeMap, UpdatesBy}
use Rattle.std.proofs.lemmas.List.{length-map}
use Rattle.std.proofs.lemmas.Bool.{false_from_ne_true}
use Rattle.std.proofs.lemmas.Map.Text.{btree_map_updates_str}
use Rattle.std.proofs.lemmas.Slice.Eq.{bytes_eq-Decides}
use Rattle.std.proofs.lemmas.List.Elements.{All-nil, All-cons, All-head}
use Rattle.minijinja_syntax.specs.Texts.{Text}
use Rattle.minijinja_value.specs.Values.{Functions}
use Rattle.minijinja_tree.specs.Tree.{Stmts, Block}
use Rattle.minijinja_tree.specs.WellFormed.{AreInner}
use Rattle.minijinja_instructions.specs.Instructions.{code_of}
use Rattle.minijinja_instructions.specs.InstructionLists.{Instructions}
use Rattle.minijinja_semantics.specs.Code.{Instr}
use Rattle.minijinja_semantics.specs.Jumps.{LeadsWell}
use Rattle.minijinja_semantics.specs.Laws.{Laws}
use Rattle.minijinja_semantics.specs.Layout.{block_code, stmts}
use Rattle.minijinja_semantics.specs.Pieces.{leading_to, outside, start}
use Rattle.minijinja_semantics.specs.Units.{DoesBlock}
use Rattle.minijinja_semantics.proofs.Leads.{block_leads_well, stmts_lead}
use Rattle.minijinja_semantics.proofs.Lengths.{exact_to, stmts_exact}
use Rattle.minijinja_semantics.proofs.Whole.{block_does}
use Rattle.minijinja_code.specs.BlockLists.{IsBlockList, list_of, AddsLists}
use Rattle.minijinja_code_parts.specs.internal.EnclosingLoops.{Around, FollowsStmts}
use Rattle.minijinja_emitter.specs.internal.Making.{Made, here_of, capped, Adds}
use Rattle.minijinja_code_parts.proofs.Rounds.{nowhere, adds_outside}
use Rattle.minijinja_code.proofs.Uncapped.{uncapped}

no_code : {X : Type 0} (xs : List X) → length xs ≡ 0 → xs ≡ []
no_code [] e = refl
no_code (x ∷ xs) e = absurd (cc)

module _ {C L F : Type 0} (f : Functions C F) (ss : Stmts C L) where
  -- the code of a body by itself
  pub body_added : (first : Made C) {room new : Made C} {t u : Around} → here_of first ≡ start → room ≡ first → t ≡ nowhere → FollowsStmts f t room u new ss → new.code ≡ map capped (block_code f ss)
  body_added first {room} {new} {t} {u} begins same none r =
      let s : Adds room new (leading_to outside (stmts f [] ss)) = adds_outside {t = nowhere} (stmts f [] ss) refl (subst (λ x. FollowsStmts f x room u new ss) none r) in
      let empty : room.code ≡ [] = ap (λ (m : Made C). m.code) same ∙ no_code first.code (ap (λ h. h.place) begins) in
      let here : here_of room ≡ start = ap here_of same ∙ begins in
      s.code ∙ ap (λ l. l ++ map capped ((stmts f [] ss).code outside (here_of room))) empty ∙ ap (λ h. map capped ((stmts f [] ss).code outside h)) here

  -- in a list of fewer than 2 ^ 32 instructions nothing is capped
  pub body_uncapped : AreInner false ss → (code : List (Instr C)) → code ≡ map capped (block_code f ss) → length code < 2 ^ 32 → code ≡ block_code f ss
  body_uncapped inner code is small =
      let first : Made C = record { code = []; filters = []; tests = [] } in
      let p = leading_to outside (stmts f [] ss) in
      let new : Made C = record { code = code; filters = (p.past start).filters; tests = (p.past start).tests } in
      let long : length code ≡ length (block_code f ss) = ap length is ∙ length-map (block_code f ss) capped in
      let ends = (exact_to (stmts_exact f ss []) outside).ends start in
      let place : length code ≡ (p.past start).place = omega (arith, long, ends) in
      let s : Adds first new p = record { code = is; past = ap (λ n. record { place = n; filters = (p.past start).filters; tests = (p.past start).tests }) place } in
      uncapped p (exact_to (stmts_exact f ss []) outside) (λ code. record { leads = λ h le stand. (stmts_lead f code ss false [] inner).leads outside h (λ is. absurd (cc)) le stand }) s small

module _ {V E : Type 0} where
  -- what has another name stays
  pub others_stay : (y : Text) (old new : BTreeMap (Bor Text) (Instructions V E)) (w : Option (Instructions V E)) → UpdatesBy (λ x y. slice_cmp nat_cmp x.now y.now) (λ k. slice_cmp nat_cmp y k.now) old new w → (x : Text) → y ≢ x → list_of new x ≡ list_of old x
  others_stay y old new w h x ne =
      btree_map_updates_str y old new w h x ∙ ap (λ b. cond b w (list_of old x)) (false_from_ne_true (bytes_eq y x) (λ t. ne ((bytes_eq-Decides y x).0 t)))

module _ {V E C L F : Type 0} (f : Functions C F) (contents : V → C) (source filename : Text) where
  -- a list is put under the name of its block
  pub list_added : Laws f → (b : Block C L) (c : Instructions V E) (old new : BTreeMap (Bor Text) (Instructions V E)) → AreInner false b.body → code_of contents c ≡ map capped (block_code f b.body) → length (code_of contents c) < 2 ^ 32 → c.is_required_block ≡ b.required → c.name.now ≡ filename → c.source.now ≡ source →
      list_of new b.name ≡ Some c → ((x : Text) → b.name ≢ x → list_of new x ≡ list_of old x) → AddsLists f contents source filename (b ∷ []) old new
  list_added laws b c old new inner code few required name text here others =
      let is : code_of contents c ≡ block_code f b.body = body_uncapped f b.body inner (code_of contents c) code few in
      let list : IsBlockList f contents source filename b c = record {
        code = is;
        does = subst (λ l. DoesBlock f l b.body) (sym is) (block_does f laws b.body inner);
        required = required;
        few = few;
        leads = subst LeadsWell (sym is) (block_leads_well f b.body inner);
        name = name;
        text = text;
      } in
      record {
        added = All-cons (λ (d : Block C L). (k : Instructions V E) × (list_of new d.name ≡ Some k) × IsBlockList f contents source filename d k) b [] (c, here, list) (All-nil _);
        others = λ x h. others x (All-head (λ (d : Block C L). d.name ≢ x) b [] h);
      }
