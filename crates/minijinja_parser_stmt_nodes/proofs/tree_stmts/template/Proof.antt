-- The rules of templates, called for the statements of a tree. The borrow checker covers no call
-- whose bound names a lifetime, so this proof walks the function's code: the rules are met at that
-- type, by the contracts of `of_parts` and of how statements are dropped, and what they answer is
-- what the function answers.
use mathlib.Core.Path.{◌≡◌, refl, sym, subst}
use mathlib.Core.List.{[], ◌∷◌, ◌++◌}
use Prim.Native.Nat.{ℕ}
use seplogic.Ra.Ura.{Ura}
use mir.Syntax.{Dict, named, a_type, tcons, tnil, dcons, dnil, w64, Ty, Tys, ty_unit, Body, call, seq, impl, method, no_args}
use mir.MapTy.{inst_fn}
use base.Fml.{Fml, Lft, Share, ftrue, fsep, flft}
use base.FractionLaws.{common}
use base.Logic.{SProp, ent, sep, emp, emp∗, id⊢, wand, via, mono_l, apply∗}
use contract.BorrowLft.{◌⊑◌, ⊑_trans, meet_⊑_left, meet_⊑_right}
use contract.Lifetimes.{Lfts}
use contract.Monad.{fact, fact_i, Fun}
use contract.Running.{Running, tables}
use prog.Model.{Model}
use prog.Wired.{Wired}
use types.Logic.{Logic, sem}
use types.Kit.{‵, raw, ◌⊛◌, some, later, ◌$◌, ◌∵◌, !, qed, done, move, keep, drop, use0, use1, use2, split, join, pick, await, suffices, show, updating, now as at_once, frame, rewrite}
use types.Run.{enter, of_opd, addr, stop, no_more, and_then, returns}
use types.ByLocal.{alloc_all, pass_all, free_all, look_at, get, through, sets, lands_as}
use types.Tokens.{lft-common}
use denote.Exit.{no, left, Kept, rest}
use denote.Laws.{Is, Lawful, shows}
use denote.Plain.{uint_vals, uint_Tells}
use denote.Ref.{mut_vals, mut_Tells}
use denote.RattleType.{RattleType, Valss, owns}
use denote.Param.{param, layout, bounded, arg}
use denote.Param.Laws.{Laws, param_laws, arg_laws}
use denote.Param.Glue as glue
use denote.Signature.{Slot, types_at, type_at}
use denote.Steps.{nothing, heard, peeks}
use denote.Struct.Laws as struct_laws
use denote.Struct.Loose as struct_loose
use denote.Enum.Loose as enum_loose
use Rattle.std.specs.contracts.result.Result as result
use Rattle.minijinja_parser_tokens.specs.contracts.refusal.Refusal as refusal
use Rattle.std.specs.contracts.alloc.AllocError as fault
use Rattle.std.proofs.result.Result.TheLaws as result_laws
use Rattle.minijinja_parser_tokens.proofs.refusal.Refusal.TheLaws as refusal_laws
use denote.Triple.Call.{calls_at}
use denote.Triple.Clauses.{Ended, Clauses, Lasts, lasts, at_exit}
use denote.Triple.Entry.{Res}
use denote.Triple.Spec.{Spec, Meets, triple_of, Back}
use denote.Triple.Table.{framed, widened, run_framed}
use denote.Triple.Walked.{Stay, Stays, walk_of, ends_at}
use Rattle.std.proofs.raw_atomic.Walks.{proved}
use Rattle.minijinja_value.specs.declared.value.TemplateValue as value
use Rattle.minijinja_value.specs.contracts.value.TemplateValue.TheBound as value_bound
use Rattle.minijinja_parser_expr.specs.contracts.tree_exprs.TreeExprs as nodes
use Rattle.minijinja_parser_tokens.specs.contracts.token_stream.TokenStream as stream
use Rattle.minijinja_tree.specs.contracts.ast.Stmt as tree
use Rattle.minijinja_parser_expr.proofs.tree_exprs.TreeExprs.TheLaws as nodes_laws
use Rattle.minijinja_tree.proofs.ast.Stmt.TheLaws as tree_laws
use Rattle.minijinja_tree.specs.SpannedErasure.{expr_node}
use Rattle.minijinja_parser_stmt_nodes.specs.private.AnyParts.{AreComplete}
use Rattle.minijinja_parser_stmt_nodes.specs.contracts.tree_stmts.OfParts.TheBound as parts_bound
use Rattle.minijinja_parser_stmt_nodes.specs.declared.tree_stmts.OfParts as parts_ghosts
use Rattle.minijinja_parser_stmt_nodes.specs.contracts.tree_stmts.StmtOfParts.TheImpl as parts
use Rattle.minijinja_parser_stmt_nodes.specs.contracts.tree_stmts.OfParts.of_parts as any
use Rattle.minijinja_parser_stmt_nodes.specs.contracts.tree_stmts.StmtOfParts.of_parts as one
use Rattle.minijinja_parser_stmt_nodes.proofs.tree_stmts.StmtOfParts.of_parts.Symbol as parts_symbol
use Rattle.minijinja_parser_stmt_nodes.proofs.tree_stmts.StmtOfParts.of_parts.Met.{met as parts_met}
use Rattle.minijinja_parser_stmt_nodes.specs.contracts.tree_stmts.template as own
use Rattle.minijinja_parser_stmt_nodes.specs.contracts.tree_stmts.template_of as rules
use Rattle.minijinja_parser_stmt_nodes.proofs.tree_stmts.template_of.Met.{met}
use Rattle.minijinja_parser_stmt_nodes.proofs.tree_stmts.template.Statement.{statement}
use Rattle.minijinja_parser_stmt_nodes.proofs.tree_stmts.template.Code as code
use mir.Inst.{args_of}
use ghost.Rules.{thinned}
use denote.Builtin.{unit}
use denote.Triple.End.{Fins, lasts_of}
use Rattle.minijinja_tree.specs.contracts.ast.Stmt.drop as drop_one
use Rattle.minijinja_tree.proofs.ast.Stmt.drop.Symbol as dropping
use Rattle.minijinja_tree.proofs.ast.Stmt.drop.Met.{met as dropping_met}

-- ---- the type that the rules are called for: statements of a tree, whose texts live for κ
-- what a call passes, by name
abbrev types_of : Body → Tys
types_of (call k xs d) = (args_of k).0
types_of b = tnil

abbrev head_of : Body → Body
head_of (seq s t) = s
head_of b = b

abbrev tail_of : Body → Body
tail_of (seq s t) = t
tail_of b = b

abbrev second : Tys → Ty
second (tcons τ (tcons σ τs)) = σ
second τs = ty_unit

-- how the call lays it out: its second type. The call is the function's third statement
abbrev laid_out : RattleType → RattleType → Ty
laid_out V VF = second (types_of (head_of (tail_of (tail_of (inst_fn (bounded (a_type ∷ a_type ∷ []) (V, (VF, tt)) dnil) code.function).body))))

abbrev statements : RattleType → RattleType → Lft → RattleType
statements V VF κ = tree.the_row (record { mir = named 0; lft = κ }) (param 0 V) (param 1 VF)

-- the type as the call passes it, which owns what that one owns
abbrev S : RattleType → RattleType → Lft → RattleType
S V VF κ = arg (laid_out V VF) no (statements V VF κ)

S-laws : (V VF : RattleType) → Laws V → Laws VF → (κ : Lft) → Laws (S V VF κ)
S-laws V VF L LF κ = arg_laws (laid_out V VF) no (statements V VF κ) (tree_laws.the_row_laws (record { mir = named 0; lft = κ }) (param 0 V) (param 1 VF) (param_laws 0 V L) (param_laws 1 VF LF)) refl

-- ---- how the call lets one go
abbrev dropped_by : RattleType → RattleType → Dict → Dict → Dict → Dict
dropped_by V VF dV dD dFD = impl (dropping.symbol ∷ []) (tcons (layout V) (tcons (layout VF) tnil)) (dcons dV (dcons dD (dcons dFD dnil)))

-- ---- small steps
-- what a walk has of a parameter at its end, where that is what the contract says of it
abbrev left_of : {n : ℕ} (s : Slot n) (k : Kept) → Stay s k
left_of s k = record { fit = λ κs x w. Unit {0}; has = λ κs x w vs. left ((s.row κs).exit k) x w }

-- what the rules require
abbrev asks : {M : Type 1} (𝓤 : Ura M) → Lft → Lft → Lft → Lft → Lft → Lft → Type 0 → SProp 𝓤
asks 𝓤 κ κ' τ τ' μ μ' P = sep 𝓤 (fact 𝓤 (κ ⊑ κ')) (sep 𝓤 (fact 𝓤 (τ ⊑ τ')) (sep 𝓤 (fact 𝓤 (μ ⊑ μ')) (sep 𝓤 (fact 𝓤 P) (emp 𝓤))))

-- a fact in front
known : {M : Type 1} (𝓤 : Ura M) (φ : Type 0) (P : SProp 𝓤) → φ → ent 𝓤 (emp 𝓤) P → ent 𝓤 (emp 𝓤) (sep 𝓤 (fact 𝓤 φ) P)
known 𝓤 φ P is h = via 𝓤 P h (via 𝓤 (sep 𝓤 (emp 𝓤) P) (emp∗ 𝓤 P) (mono_l 𝓤 P (fact_i 𝓤 φ (emp 𝓤) is)))

asked : {M : Type 1} (𝓤 : Ura M) (κ κ' τ τ' μ μ' : Lft) (P : Type 0) → κ ⊑ κ' → τ ⊑ τ' → μ ⊑ μ' → P → ent 𝓤 (emp 𝓤) (asks 𝓤 κ κ' τ τ' μ μ' P)
asked 𝓤 κ κ' τ τ' μ μ' P h k m p = known 𝓤 _ _ h (known 𝓤 _ _ k (known 𝓤 _ _ m (known 𝓤 _ _ p (id⊢ 𝓤 (emp 𝓤)))))

module _ (V VF : RattleType) (L : Laws V) (LF : Laws VF) (gV : value.Ghosts V.Denot VF.Denot) (κ : Lft) (dV dD dFD : Dict) {M : Type 1} {𝓤 : Ura M} (𝓛 : Logic 𝓤) (𝓜 : Model 𝓤 𝓛.H) (𝓡 : Running 𝓤 𝓛.H 𝓜) where
  drops : Wired 𝓡.env dropping.code → value_bound.Met 𝓛 𝓜 𝓡 𝓡.env V VF gV dV → glue.Met 𝓛 𝓜 𝓡 𝓡.env V dD → glue.Met 𝓛 𝓜 𝓡 𝓡.env VF dFD → glue.Met 𝓛 𝓜 𝓡 𝓡.env (S V VF κ) (dropped_by V VF dV dD dFD)
  drops wired met-V go-V go-VF y =
      let τ : Lft = y.0.0.0 in let q : Share = y.0.1.0 in let x = y.0.3.0 in let us = y.0.4.0 in
      let r : Share = (common q q).0 in let s : Share = (common q q).1 in let t : Share = thinned κ r in
      let s1 : Share = (common s s).0 in let s2 : Share = (common s s).1 in
      let c = drop_one.spec V VF gV dV dD dFD 𝓛 𝓜.mem 𝓡.returns in
      let G = triple_of 𝓛 (drop_one.signature V VF) c in
      let z : G.Ghost = (((κ, (τ, (τ, tt))), (t, (s1, (s2, tt))), tt, (x, tt), (us, tt)), tt) in
      let k = method (dropped_by V VF dV dD dFD) 0 no_args in
      let run : Fun 𝓤 = 𝓡.run (𝓡.env k) in
      let F : SProp 𝓤 = wand 𝓤 (𝓛.A.lft κ t) (𝓛.A.lft τ r) in
      let Q = triple_of 𝓛 (glue.signature (S V VF κ)) (glue.spent 𝓛 (S V VF κ)) in
      let owned : Fml = fsep ((S V VF κ).own_val x us) ftrue in
      let holds : τ ⊑ (S V VF κ).lives → (τ ⊑ κ) × ((τ ⊑ V.lives) × ((τ ⊑ VF.lives) × Unit {0})) = λ within. tree_laws.the_holds (record { mir = named 0; lft = κ }) (param 0 V) (param 1 VF) τ within in
      via 𝓤 (sep 𝓤 (G.pre z) F) (qed 𝓛 (((‵ (flft τ q) ⊛ ‵ ftrue) ⊛ ‵ owned) ∷ (raw (fact 𝓤 (τ ⊑ (S V VF κ).lives)) ⊛ raw (emp 𝓤)) ∷ []) ∵
      split ! $ split ! $ move ! (3 ∷ []) $ split ! $ heard ! _ (λ within. keep ! (1 ∷ 3 ∷ []) $
      use1 𝓛 (‵ (flft τ r) ⊛ ‵ (flft τ s)) (𝓛.lfts.lft_cut τ q r s (common q q).3) $ split ! $
      use1 𝓛 (‵ (flft κ t) ⊛ raw F) (𝓛.lfts.lft-incl τ κ r (holds within).0) $ split ! $ move ! (2 ∷ []) $
      use1 𝓛 (‵ (flft τ s1) ⊛ ‵ (flft τ s2)) (𝓛.lfts.lft_cut τ s s1 s2 (common s s).3) $ split ! $
      nothing ! $ move ! (2 ∷ 0 ∷ []) $ join ! $ move ! (1 ∷ 0 ∷ []) $ join ! $ move ! (1 ∷ 0 ∷ []) $ join ! $ move ! (0 ∷ 2 ∷ []) $ join ! $
      use0 𝓛 (raw (sep 𝓤 (fact 𝓤 (τ ⊑ V.lives)) (sep 𝓤 (fact 𝓤 (τ ⊑ VF.lives)) (emp 𝓤)))) (known 𝓤 _ _ (holds within).1.0 (known 𝓤 _ _ (holds within).1.1.0 (id⊢ 𝓤 (emp 𝓤)))) $
      move ! (1 ∷ 0 ∷ []) $ join ! $ done !))
      (via 𝓤 (sep 𝓤 (run (G.args z) (G.post z)) F)
      (mono_l 𝓤 F (widened 𝓤 𝓛.H G 𝓜 𝓡 𝓡.env (𝓡.env (dropping.name (bounded (a_type ∷ a_type ∷ []) (V, (VF, tt)) (dcons dV (dcons dD (dcons dFD dnil)))))) (𝓡.env k) (dropping.as_method 𝓡.env wired k refl) (dropping_met 𝓤 𝓛 𝓜 𝓡 wired V VF L LF gV dV dD dFD met-V go-V go-VF) z))
      (run_framed 𝓤 𝓛.H 𝓜 𝓡 (𝓡.env k) (G.args z) (G.post z) (Q.post y) F (λ v. qed 𝓛 (raw (G.post z v) ∷ raw F ∷ []) ∵ updating ! $
      use1 𝓛 (later (some (λ (u : Unit {0}). ((‵ (flft κ t) ⊛ (‵ (flft τ s1) ⊛ (‵ (flft τ s2) ⊛ ‵ ftrue))) ⊛ ‵ (unit.own_val u (v ∷ []))) ⊛ raw ((c z.0.0 z.0.3).ensures tt u)))) (id⊢ 𝓤 _) $
      await ! tt $ pick ! (λ u. split ! $ split ! $ split ! $ move ! (1 ∷ []) $ split ! $ move ! (1 ∷ []) $ split ! $
      -- [one half of what V had; nothing; the other half; the lifetime of texts; the result; what
      -- is said; the way back]
      move ! (2 ∷ 0 ∷ []) $ use2 𝓛 (‵ (flft τ s)) (𝓛.lfts.lft_glue τ s s1 s2 (common s s).3) $ move ! (2 ∷ 5 ∷ []) $
      use2 𝓛 (‵ (flft τ r)) (apply∗ 𝓤 (𝓛.A.lft κ t) (𝓛.A.lft τ r)) $ use2 𝓛 (‵ (flft τ q)) (𝓛.lfts.lft_glue τ q r s (common q q).3) $
      keep ! (0 ∷ 1 ∷ 2 ∷ []) $ join ! $ join ! $ at_once ! $ show ! (λ (w : Unit {0}). sep 𝓤 (Back 𝓛 (glue.signature (S V VF κ)) y.0 v w) ((glue.spent 𝓛 (S V VF κ) y.0.0 y.0.3).ensures y.1 w)) u $ frame ! $
      show ! (λ (ws : Fins y.0.0 (glue.signature (S V VF κ)).params (no, tt) y.0.3). sep 𝓤 (sem 𝓛 (lasts_of y.0.0 (glue.signature (S V VF κ)).params (no, tt) y.0.3 ws)) (emp 𝓤)) (rest ((param 0 (S V VF κ)).exit no) x, tt) $ nothing ! $ nothing ! $ nothing ! $ join ! $ join ! $ done !))))

-- ---- that the rules are met at this type
module _ (V VF : RattleType) (LV : Laws V) (LVF : Laws VF) (gV : value.Ghosts V.Denot VF.Denot) (dV dD dFD : Dict) where
  abbrev T : Ended
  T = own.ended V VF gV dV dD dFD

  abbrev stayed : Stays T.signature.params T.kept
  stayed = (left_of _ _, (left_of _ _, (left_of _ _, tt)))

  abbrev same : Lft → Lfts 6 → Type 0
  same κ τs = τs.0 ≡ κ

  abbrev made_of : parts_ghosts.Ghosts (S V VF []).Denot V.Denot VF.Denot
  made_of = parts.ghosts V VF gV dV dD dFD

  abbrev made_by_parts : Dict
  made_by_parts = parts.dict V VF gV dV dD dFD

  abbrev U : Lft → Ended
  U κ = rules.ended V (S V VF κ) VF gV dV made_of made_by_parts dD (dropped_by V VF dV dD dFD) dFD (same κ)

  module _ {M : Type 1} {𝓤 : Ura M} (𝓛 : Logic 𝓤) (𝓜 : Model 𝓤 𝓛.H) (𝓡 : Running 𝓤 𝓛.H 𝓜) where
    abbrev c : Clauses 𝓤 T
    c = own.clauses V VF gV dV dD dFD 𝓛 𝓜.mem 𝓡.returns

    abbrev called : (κ : Lft) → Spec 𝓤 (U κ).signature
    called κ = rules.spec V (S V VF κ) VF gV dV made_of made_by_parts dD (dropped_by V VF dV dD dFD) dFD (same κ) 𝓛 𝓜.mem 𝓡.returns

    -- a statement is made of its parts, as the rules ask of any type
    makes : (κ : Lft) → Wired 𝓡.env parts_symbol.code → value_bound.Met 𝓛 𝓜 𝓡 𝓡.env V VF gV dV → glue.Met 𝓛 𝓜 𝓡 𝓡.env V dD → glue.Met 𝓛 𝓜 𝓡 𝓡.env VF dFD → (d d' d'' : Dict)
        → Meets 𝓛 (any.signature (S V VF κ) V VF) (𝓡.run (𝓡.env (method made_by_parts 0 no_args))) (any.spec (S V VF κ) V VF made_of made_by_parts gV dV d d' d'' (λ κs. (κs.0 ≡ κ) × Unit {0}) 𝓛 𝓜.mem 𝓡.returns)
    makes κ wired met-V go-V go-VF d d' d'' y =
        let κs = y.0.0 in let qs = y.0.1 in let a = y.0.3 in let vss = y.0.4 in
        let τ : Lft = κs.0 in let σ : Lft = κs.1.0 in let τ3 : Lft = κs.1.1.0 in let τ4 : Lft = κs.1.1.1.0 in
        let q : Share = qs.0 in let qσ : Share = qs.1.0 in let q3 : Share = qs.1.1.0 in let q4 : Share = qs.1.1.1.0 in
        let h = one.spec V VF gV dV dD dFD 𝓛 𝓜.mem 𝓡.returns in
        let G = triple_of 𝓛 (one.signature V VF) h in
        let z : G.Ghost = (((τ, (τ3, (τ4, tt))), (q, (q3, (q4, tt))), tt, a, vss), y.1) in
        let c = any.spec (S V VF κ) V VF made_of made_by_parts gV dV d d' d'' (λ κs. (κs.0 ≡ κ) × Unit {0}) 𝓛 𝓜.mem 𝓡.returns in
        let Q = triple_of 𝓛 (any.signature (S V VF κ) V VF) c in
        let k = method made_by_parts 0 no_args in
        let run : Fun 𝓤 = 𝓡.run (𝓡.env k) in
        let is : SProp 𝓤 = fact 𝓤 ((τ ≡ κ) × Unit {0}) in
        let complete : SProp 𝓤 = fact 𝓤 (AreComplete (expr_node gV.contents) a.1.0) in
        let F : SProp 𝓤 = sep 𝓤 (𝓛.A.lft σ qσ) is in
        let ins : Fml = owns (types_at (any.signature (S V VF κ) V VF).params κs) a vss in
        via 𝓤 (sep 𝓤 (G.pre z) F) (qed 𝓛 (((‵ (flft τ q) ⊛ (‵ (flft σ qσ) ⊛ (‵ (flft τ3 q3) ⊛ (‵ (flft τ4 q4) ⊛ ‵ ftrue)))) ⊛ ‵ ins)
        ∷ (raw (fact 𝓤 (σ ⊑ (S V VF κ).lives)) ⊛ (raw (fact 𝓤 (τ3 ⊑ V.lives)) ⊛ (raw (fact 𝓤 (τ4 ⊑ VF.lives)) ⊛ (raw is ⊛ raw complete)))) ∷ []) ∵
        move ! (1 ∷ []) $ split ! $ drop ! $ split ! $ move ! (1 ∷ []) $ split ! $ move ! (1 ∷ []) $ split ! $ heard ! _ (λ e.
        move ! (1 ∷ 0 ∷ []) $ join ! $ move ! (1 ∷ 0 ∷ []) $ join ! $ move ! (1 ∷ []) $ split ! $ split ! $ move ! (1 ∷ []) $ split ! $ move ! (2 ∷ 1 ∷ []) $ join ! $ move ! (2 ∷ []) $
        rewrite ! 0 (λ (κ' : Lft). ‵ (owns (types_at (any.signature (S V VF κ') V VF).params κs) a vss)) (sym e.0) refl $
        move ! (1 ∷ 0 ∷ []) $ join ! $ move ! (0 ∷ 2 ∷ []) $ join ! $
        use0 𝓛 (raw is) (fact_i 𝓤 ((τ ≡ κ) × Unit {0}) (emp 𝓤) e) $ move ! (2 ∷ 0 ∷ []) $ join ! $ move ! (1 ∷ 0 ∷ []) $ done !))
        (via 𝓤 (sep 𝓤 (run (G.args z) (G.post z)) F)
        (mono_l 𝓤 F (widened 𝓤 𝓛.H G 𝓜 𝓡 𝓡.env (𝓡.env (parts_symbol.name (bounded (a_type ∷ a_type ∷ []) (V, (VF, tt)) (dcons dV (dcons dD (dcons dFD dnil)))))) (𝓡.env k) (parts_symbol.as_method 𝓡.env wired k refl) (parts_met 𝓤 𝓛 𝓜 𝓡 wired V VF LV LVF gV dV dD dFD met-V go-V go-VF) z))
        (run_framed 𝓤 𝓛.H 𝓜 𝓡 (𝓡.env k) (G.args z) (G.post z) (Q.post y) F (λ v. qed 𝓛 (raw (G.post z v) ∷ raw F ∷ []) ∵ updating ! $
        use1 𝓛 (later (some (λ (res : Res (any.signature (S V VF κ) V VF) κs). ((‵ (flft τ q) ⊛ (‵ (flft τ3 q3) ⊛ (‵ (flft τ4 q4) ⊛ ‵ ftrue))) ⊛ ‵ ((result.the_row (param 0 (S V VF τ)) fault.the_row).own_val res (v ∷ []))) ⊛ raw ((c κs a).ensures y.1 res)))) (id⊢ 𝓤 _) $
        await ! tt $ pick ! (λ res. split ! $ split ! $ move ! (3 ∷ []) $ use1 𝓛 (‵ (flft σ qσ) ⊛ raw is) (id⊢ 𝓤 _) $ split ! $ move ! (1 ∷ []) $ heard ! _ (λ e.
        move ! (2 ∷ 1 ∷ []) $ rewrite ! 0 (λ (κ' : Lft). ‵ ((result.the_row (param 0 (S V VF κ')) fault.the_row).own_val res (v ∷ []))) e.0 refl $
        move ! (1 ∷ []) $ split ! $ move ! (3 ∷ 1 ∷ []) $ join ! $ move ! (1 ∷ 0 ∷ []) $ join ! $ join ! $
        at_once ! $ show ! (λ (w : Res (any.signature (S V VF κ) V VF) κs). sep 𝓤 (Back 𝓛 (any.signature (S V VF κ) V VF) y.0 v w) ((c κs a).ensures y.1 w)) res $ frame ! $ done !)))))

    rules_meet : (κ : Lft) → Wired 𝓡.env code.code → value_bound.Met 𝓛 𝓜 𝓡 𝓡.env V VF gV dV → glue.Met 𝓛 𝓜 𝓡 𝓡.env V dD → glue.Met 𝓛 𝓜 𝓡 𝓡.env VF dFD
        → Meets 𝓛 (U κ).signature (𝓡.run (𝓡.env (rules.Key.name (bounded (a_type ∷ a_type ∷ a_type ∷ []) (V, (S V VF κ, (VF, tt))) (dcons dV (dcons made_by_parts (dcons dD (dcons (dropped_by V VF dV dD dFD) (dcons dFD dnil))))))))) (called κ)
    rules_meet κ wired met-V go-V go-VF =
        met 𝓤 𝓛 𝓜 𝓡 (code.calls-minijinja_parser_stmt_nodes::tree_stmts::template_of 𝓡.env wired) V (S V VF κ) VF LV (S-laws V VF LV LVF κ) LVF gV dV made_of made_by_parts dD (dropped_by V VF dV dD dFD) dFD (same κ)
        met-V (λ τs is. subst (λ (τ : Lft). parts_bound.Met 𝓛 𝓜 𝓡 𝓡.env τ (S V VF κ) V VF made_of made_by_parts gV dV) (sym is)
        (record {
          V-Fault-lives = ⊑_trans (κ ++ ((S V VF κ).lives ++ V.lives)) V.lives VF.lives
              (⊑_trans (κ ++ ((S V VF κ).lives ++ V.lives)) ((S V VF κ).lives ++ V.lives) V.lives (meet_⊑_right κ ((S V VF κ).lives ++ V.lives)) (meet_⊑_right (S V VF κ).lives V.lives)) met-V.Self-Fault-lives;
          of_parts = makes κ (code.calls-minijinja_parser_stmt_nodes::tree_stmts::StmtOfParts::of_parts 𝓡.env wired) met-V go-V go-VF;
        }))
        go-V (drops V VF LV LVF gV κ dV dD dFD 𝓛 𝓜 𝓡 (code.calls-minijinja_tree::ast::Stmt::drop 𝓡.env wired) met-V go-V go-VF) go-VF

-- ---- the walk. The lifetimes are those of texts, of the syntax, and of the borrow of the tokens,
-- then what values and faults live for. The rules ask for one more, that of
-- statements, which is the meet of the first and the fourth: a part of both tokens is lent for it
pub template_spec : {M : Type 1} → statement M
template_spec {M} 𝓤 𝓛 𝓜 𝓡 wired V VF LV LVF gV dV dD dFD met-V go-V go-VF =
    let T : Ended = T V VF LV LVF gV dV dD dFD in
    let c = c V VF LV LVF gV dV dD dFD 𝓛 𝓜 𝓡 in
    let A = bounded (a_type ∷ a_type ∷ []) (V, (VF, tt)) (dcons dV (dcons dD (dcons dFD dnil))) in
    let stayed : Stays T.signature.params T.kept = stayed V VF LV LVF gV dV dD dFD in
    let 𝓣 = tables 𝓤 𝓛.H 𝓜 𝓡 𝓡.env in
    proved 𝓛 T stayed c 𝓜 𝓡 ((λ κs x w vs fit. 𝓛.laws.⇛_intro _), ((λ κs x w vs fit. 𝓛.laws.⇛_intro _), ((λ κs x w vs fit. 𝓛.laws.⇛_intro _), tt)))
    (own.Key.name A) (inst_fn A code.function) (code.unfolded 𝓤 𝓛.H 𝓜 𝓡 wired (V, (VF, tt)) dV dD dFD)
    (λ κs. (
      struct_laws.vals (nodes.the_type (record { mir = named 0; lft = κs.0 }) (record { mir = named 1; lft = κs.1.0 }) (param 0 V)) (nodes_laws.the_laws (record { mir = named 0; lft = κs.0 }) (record { mir = named 1; lft = κs.1.0 }) (param 0 V) (param_laws 0 V LV)),
      (mut_vals, (uint_vals w64, tt)),
    ))
    (λ κs. (
      struct_laws.tells (nodes.the_type (record { mir = named 0; lft = κs.0 }) (record { mir = named 1; lft = κs.1.0 }) (param 0 V)) (nodes_laws.the_laws (record { mir = named 0; lft = κs.0 }) (record { mir = named 1; lft = κs.1.0 }) (param 0 V) (param_laws 0 V LV)),
      (mut_Tells (named 2) κs.1.1.0 (stream.the_row (record { mir = named 0; lft = κs.0 }) (record { mir = named 1; lft = κs.1.0 })), (uint_Tells w64, tt)),
    ))
    (λ κs qs bounds a none are.
    let κ0 : Lft = κs.0 in let κ1 : Lft = κs.1.0 in let κ2 : Lft = κs.1.1.0 in let κ3 : Lft = κs.1.1.1.0 in let κ4 : Lft = κs.1.1.1.1.0 in
    let q0 : Share = qs.0 in let q1 : Share = qs.1.0 in let q2 : Share = qs.1.1.0 in let q3 : Share = qs.1.1.1.0 in let q4 : Share = qs.1.1.1.1.0 in
    let r0 : Share = (common q0 q0).0 in let s0 : Share = (common q0 q0).1 in let r3 : Share = (common q3 q3).0 in let s3 : Share = (common q3 q3).1 in
    let both : Share = (common s0 s3).0 in let σ : Lft = κ0 ++ κ3 in
    let lent : SProp 𝓤 = sep 𝓤 (𝓛.A.lft κ0 s0) (𝓛.A.lft κ3 s3) in
    let vss : Valss (types_at T.signature.params κs) = (struct_laws.vals (nodes.the_type (record { mir = named 0; lft = κs.0 }) (record { mir = named 1; lft = κs.1.0 }) (param 0 V)) (nodes_laws.the_laws (record { mir = named 0; lft = κs.0 }) (record { mir = named 1; lft = κs.1.0 }) (param 0 V) (param_laws 0 V LV)) a.0, (mut_vals a.1.0, (uint_vals w64 a.1.1.0, tt))) in
    let owned : Fml = owns (types_at T.signature.params κs) a vss in
    let y : (walk_of 𝓛 T stayed c).Ghost = ((κs, qs, bounds, a, vss), tt) in
    let n-typed = (struct_loose.loose_lawful (nodes.the_type (record { mir = named 0; lft = κs.0 }) (record { mir = named 1; lft = κs.1.0 }) (param 0 V)) (nodes_laws.the_loose (record { mir = named 0; lft = κs.0 }) (record { mir = named 1; lft = κs.1.0 }) (param 0 V) (param_laws 0 V LV)) 𝓛).typed a.0 _ are.0 in
    let r-lawful : (κ : Lft) → Lawful 𝓛 (result.the_row (tree.the_row (record { mir = named 0; lft = κ }) (param 0 V) (param 1 VF)) refusal.the_row) = λ κ. enum_loose.loose_lawful (result.the_type (tree.the_row (record { mir = named 0; lft = κ }) (param 0 V) (param 1 VF)) refusal.the_row)
    (result_laws.the_loose (tree.the_row (record { mir = named 0; lft = κ }) (param 0 V) (param 1 VF)) refusal.the_row (tree_laws.the_row_laws (record { mir = named 0; lft = κ }) (param 0 V) (param 1 VF) (param_laws 0 V LV) (param_laws 1 VF LVF)) refusal_laws.the_row_laws) tt 𝓛 in
    let R : RattleType = type_at T.signature.result κs in
    let G = triple_of 𝓛 (U V VF LV LVF gV dV dD dFD κ0).signature (called V VF LV LVF gV dV dD dFD 𝓛 𝓜 𝓡 κ0) in
    let z : G.Ghost = (((κ0, (κ1, (κ2, (κ3, (σ, (κ4, tt)))))), (r0, (q1, (q2, (r3, (both, (q4, tt)))))), bounds, a, vss), tt) in
    qed 𝓛 (((‵ (flft κ0 q0) ⊛ (‵ (flft κ1 q1) ⊛ (‵ (flft κ2 q2) ⊛ (‵ (flft κ3 q3) ⊛ (‵ (flft κ4 q4) ⊛ ‵ ftrue))))) ⊛ ‵ owned) ∷ (raw (fact 𝓤 (κ3 ⊑ V.lives)) ⊛ (raw (fact 𝓤 (κ4 ⊑ VF.lives)) ⊛ raw (emp 𝓤))) ∷ []) ∵
    split ! $ move ! (2 ∷ []) $ split ! $ heard ! _ (λ in-V. split ! $ heard ! _ (λ in-VF.
    let in-S : σ ⊑ (S V VF κ0).lives = tree_laws.the_within (record { mir = named 0; lft = κ0 }) (param 0 V) (param 1 VF) σ (meet_⊑_left κ0 κ3) (⊑_trans σ κ3 V.lives (meet_⊑_right κ0 κ3) in-V) (⊑_trans σ V.lives VF.lives (⊑_trans σ κ3 V.lives (meet_⊑_right κ0 κ3) in-V) met-V.Self-Fault-lives) in
    keep ! (1 ∷ 2 ∷ []) $
    split ! $ move ! (1 ∷ []) $ split ! $ move ! (1 ∷ []) $ split ! $ move ! (1 ∷ []) $ split ! $ move ! (1 ∷ []) $ split ! $
    keep ! (5 ∷ 4 ∷ 3 ∷ 2 ∷ 0 ∷ 6 ∷ []) $
    use1 𝓛 (‵ (flft κ0 r0) ⊛ ‵ (flft κ0 s0)) (𝓛.lfts.lft_cut κ0 q0 r0 s0 (common q0 q0).3) $ split ! $ move ! (4 ∷ []) $
    use1 𝓛 (‵ (flft κ3 r3) ⊛ ‵ (flft κ3 s3)) (𝓛.lfts.lft_cut κ3 q3 r3 s3 (common q3 q3).3) $ split ! $ move ! (3 ∷ 1 ∷ []) $
    use2 𝓛 (‵ (flft σ both) ⊛ raw (wand 𝓤 (𝓛.A.lft σ both) lent)) (lft-common 𝓛 κ0 κ3 s0 s3) $ split ! $
    nothing ! $ move ! (7 ∷ 0 ∷ []) $ join ! $ move ! (1 ∷ 0 ∷ []) $ join ! $ move ! (2 ∷ 0 ∷ []) $ join ! $ move ! (4 ∷ 0 ∷ []) $ join ! $ move ! (3 ∷ 0 ∷ []) $ join ! $ move ! (2 ∷ 0 ∷ []) $ join ! $ move ! (0 ∷ 2 ∷ []) $ join ! $
    use0 𝓛 (raw (asks 𝓤 κ3 V.lives σ (S V VF κ0).lives κ4 VF.lives (κ0 ≡ κ0))) (asked 𝓤 κ3 V.lives σ (S V VF κ0).lives κ4 VF.lives (κ0 ≡ κ0) in-V in-S in-VF refl) $
    move ! (1 ∷ 0 ∷ []) $ join ! $ use1 𝓛 (raw (G.pre z)) (id⊢ 𝓤 _) $
    enter ! _ _ _ _ _ $ alloc_all ! (λ l. pass_all ! refl (n-typed.0, ((tt, tt), ((tt, record { fits = are.1.1.0.1 }), tt))) $
    sets ! (of_opd ! (get ! refl)) refl n-typed.0 $
    sets ! (addr ! (through ! refl (stop !))) refl (tt, tt) $
    calls_at ! (framed 𝓤 𝓛.H 𝓜 𝓣) G (rules_meet V VF LV LVF gV dV dD dFD 𝓛 𝓜 𝓡 κ0 wired met-V go-V go-VF) z (and_then ! (get ! refl) (and_then ! (get ! refl) (and_then ! (get ! refl) (no_more !)))) (λ v.
    use1 𝓛 (later (some (λ (res : R.Denot). ((‵ (flft κ0 r0) ⊛ (‵ (flft κ1 q1) ⊛ (‵ (flft κ2 q2) ⊛ (‵ (flft κ3 r3) ⊛ (‵ (flft σ both) ⊛ (‵ (flft κ4 q4) ⊛ ‵ ftrue)))))) ⊛ ‵ (R.own_val res (v ∷ [])))
    ⊛ some (λ (ws : Lasts T κs a). ‵ (lasts T κs a ws) ⊛ raw ((c κs a).ensures tt res (at_exit T κs a ws)))))) (id⊢ 𝓤 _) $
    await ! tt $ pick ! (λ res. split ! $ split ! $ move ! (1 ∷ []) $ peeks ! R (Is R) (shows 𝓛 R) res (v ∷ []) (λ is.
    lands_as ! refl refl ((r-lawful κ0).typed res (v ∷ []) is).0 $
    returns ! (look_at ! 0 refl) $ free_all ! refl $
    move ! (1 ∷ []) $ split ! $ move ! (1 ∷ []) $ split ! $ move ! (1 ∷ []) $ split ! $ move ! (1 ∷ []) $ split ! $ move ! (1 ∷ []) $ split ! $ move ! (1 ∷ []) $ split ! $
    move ! (2 ∷ 9 ∷ []) $ use2 𝓛 (‵ (flft κ0 s0) ⊛ ‵ (flft κ3 s3)) (apply∗ 𝓤 (𝓛.A.lft σ both) lent) $ split ! $
    move ! (7 ∷ 0 ∷ []) $ use2 𝓛 (‵ (flft κ0 q0)) (𝓛.lfts.lft_glue κ0 q0 r0 s0 (common q0 q0).3) $
    move ! (4 ∷ 1 ∷ []) $ use2 𝓛 (‵ (flft κ3 q3)) (𝓛.lfts.lft_glue κ3 q3 r3 s3 (common q3 q3).3) $
    move ! (2 ∷ 3 ∷ []) $ join ! $ move ! (1 ∷ 0 ∷ []) $ join ! $ move ! (2 ∷ 0 ∷ []) $ join ! $ move ! (2 ∷ 0 ∷ []) $ join ! $ move ! (1 ∷ 0 ∷ []) $ join ! $
    move ! (2 ∷ []) $ pick ! (λ ws. split ! $ suffices ! _ (ends_at 𝓛 T stayed c y v res ws (tt, (tt, (tt, tt)))) $
    move ! (0 ∷ 3 ∷ []) $ join ! $ move ! (2 ∷ 0 ∷ []) $ join ! $ done !))))))))
