-- The code of a tree that is added to a list does what the tree means, and so do its units.
use Rattle.std.proofs.Common.{◌≡◌, ◌≤◌, List, [], ◌∷◌, ◌++◌, ℕ, length, refl, sym, subst, arith, length-append}
use Rattle.std.specs.Prelude.{Bool, false}
use Rattle.minijinja_value.specs.Values.{Functions}
use Rattle.minijinja_semantics.specs.Laws.{Laws}
use Rattle.minijinja_tree.specs.Tree.{Expr, Stmt, template, Stmts}
use Rattle.minijinja_tree.specs.WellFormed.{IsWhole, AreInner, IsRoot, IsWellFormed}
use Rattle.minijinja_semantics.specs.Events.{Answer}
use Rattle.minijinja_semantics.specs.Meaning.{expr as expr_meaning, stmt as stmt_meaning}
use Rattle.minijinja_semantics.specs.Code.{Instr}
use Rattle.minijinja_semantics.specs.Pieces.{Here, start, Piece, outside, leading_to}
use Rattle.minijinja_semantics.specs.Layout.{expr, stmt, expr_code, stmt_code, block_code}
use Rattle.minijinja_semantics.specs.Places.{placed_stmt}
use Rattle.minijinja_semantics.specs.Machine.{At, AtPlace}
use Rattle.minijinja_semantics.specs.Brackets.{IsBalanced}
use Rattle.minijinja_semantics.specs.Correct.{fresh, DoesFrom, DoesStmt, DoesExpr}
use Rattle.minijinja_semantics.specs.Units.{DoUnits, DoesBlock, DoBlocks}
use Rattle.minijinja_semantics.proofs.Placed.{Act}
use Rattle.minijinja_semantics.proofs.Runs.{Stands, stands_behind, Gives}
use Rattle.minijinja_semantics.proofs.Lengths.{Exact, exact_to, expr_exact, stmt_exact}
use Rattle.minijinja_semantics.proofs.Settling.{up_to, does_by}
use Rattle.minijinja_semantics.proofs.Simulation.{expr_sim}
use Rattle.minijinja_semantics.proofs.StatementSimulation.{root_gives}
use Rattle.minijinja_semantics.proofs.UnitSimulation.{root_units_do}
use Rattle.minijinja_semantics.proofs.Balance.{balanced_from, expr_keeps, stmt_keeps}
use Rattle.minijinja_semantics.proofs.BlockBodies.{of_blocks}

-- the code of a piece stands where it was added to a list
pub stands_added : {C : Type 0} (before : List (Instr C)) (h : Here) (p : Piece C) → h.place ≡ length before → Stands (before ++ p.code h) h.place (p.code h)
stands_added before h p at = subst (λ n. Stands (before ++ p.code h) n (p.code h)) (sym at) (stands_behind before (p.code h))

-- the code of a piece that was added to a list
piece_does : {C F X : Type 0} (f : Functions C F) (before : List (Instr C)) (h : Here) (p : Piece C) (below : List C) {P : X → Type 0} (leaves : X → List C) (ls : List Bool) (answers : List (Answer C)) (m : Act C F X) → h.place ≡ length before → Exact p → ((p.past h).place ≤ length (before ++ p.code h) → Gives f (before ++ p.code h) (up_to (length (before ++ p.code h))) (At h.place below ls (fresh answers)) (p.past h).place ls P (λ x. leaves x ++ below) (m (fresh answers))) → IsBalanced (m (fresh answers)) → DoesFrom f (before ++ p.code h) (record { place = h.place; given = []; finish = AtPlace (length (before ++ p.code h)); leaves = leaves }) (m (fresh answers)) below ls answers
piece_does f before h p below {P} leaves ls answers m at exact gives balanced =
    let code = before ++ p.code h in
    let e : (p.past h).place ≡ length code = omega (arith, length-append before (p.code h), exact.ends h) in
    does_by f code h.place (length code) [] below leaves ls answers m (omega arith) balanced
    (subst (λ q. Gives f code (up_to (length code)) (At h.place below ls (fresh answers)) q ls P (λ x. leaves x ++ below) (m (fresh answers))) e (gives (omega arith)))

-- The code of an expression, added to a list, does what the expression means, and leaves its value.
pub expression_does : {C F : Type 0} (f : Functions C F) → Laws f → (before : List (Instr C)) (h : Here) (e : Expr C) → h.place ≡ length before → IsWhole e → DoesExpr f (before ++ expr_code f e h) h.place (length (before ++ expr_code f e h)) e
expression_does f laws before h e at whole below ls answers few =
    let code = before ++ expr_code f e h in
    piece_does f before h (expr f e) below (λ v. v ∷ []) ls answers (expr_meaning f e) at (expr_exact f e)
    (λ le. (expr_sim f laws code (up_to (length code)) e whole below).gives h ls (fresh answers) few le (stands_added before h (expr f e) at))
    (balanced_from (expr_meaning f e) answers (expr_keeps ℕ f e))

-- The code of a root, added to a list, does what the root means, and leaves nothing.
root_does : {C L F : Type 0} (f : Functions C F) → Laws f → (before : List (Instr C)) (h : Here) (s : Stmt C L) → h.place ≡ length before → IsRoot s → DoesStmt f (before ++ stmt_code f s h) h.place (length (before ++ stmt_code f s h)) (placed_stmt f s h)
root_does f laws before h s at is below ls answers few =
    let code = before ++ stmt_code f s h in
    let p = leading_to outside (stmt f [] s) in
    piece_does f before h p below (λ g. []) ls answers (stmt_meaning f (placed_stmt f s h)) at (exact_to (stmt_exact f s []) outside)
    (λ le. root_gives f laws code (up_to (length code)) s is below ls h (fresh answers) few le (stands_added before h p at))
    (balanced_from (stmt_meaning f (placed_stmt f s h)) answers (stmt_keeps ℕ f (placed_stmt f s h)))

-- The code of a statement, added to a list, does what the statement means, and leaves nothing.
pub statement_does : {C L F : Type 0} (f : Functions C F) → Laws f → (before : List (Instr C)) (h : Here) (s : Stmt C L) → h.place ≡ length before → IsWellFormed s → DoesStmt f (before ++ stmt_code f s h) h.place (length (before ++ stmt_code f s h)) (placed_stmt f s h)
statement_does f laws before h s at well = root_does f laws before h s at well.0

-- The code of each unit within a statement does what the unit means.
pub statement_units_do : {C L F : Type 0} (f : Functions C F) → Laws f → (before : List (Instr C)) (h : Here) (s : Stmt C L) → h.place ≡ length before → IsWellFormed s → DoUnits f (before ++ stmt_code f s h) s h
statement_units_do f laws before h s at well = root_units_do f laws (before ++ stmt_code f s h) s well.0 h (stands_added before h (leading_to outside (stmt f [] s)) at)

-- The code of an expression by itself does what it means, over any operands and open loops, and
-- leaves its value.
pub standalone_does : {C F : Type 0} (f : Functions C F) → Laws f → (e : Expr C) → IsWhole e → DoesExpr f (expr_code f e start) 0 (length (expr_code f e start)) e
standalone_does f laws e whole = expression_does f laws [] start e refl whole

-- The code of a template does what it means, and leaves nothing.
pub template_does : {C L F : Type 0} (f : Functions C F) → Laws f → (s : Stmt C L) → IsWellFormed s → DoesStmt f (stmt_code f s start) 0 (length (stmt_code f s start)) (placed_stmt f s start)
template_does f laws s well = statement_does f laws [] start s refl well

-- The code of each unit within a statement does what the unit means.
pub template_units_do : {C L F : Type 0} (f : Functions C F) → Laws f → (s : Stmt C L) → IsWellFormed s → DoUnits f (stmt_code f s start) s start
template_units_do f laws s well = statement_units_do f laws [] start s refl well

-- The list of a block does what its body means, and so does the code of each unit within it.
pub block_does : {C L F : Type 0} (f : Functions C F) → Laws f → (body : Stmts C L) → AreInner false body → DoesBlock f (block_code f body) body
block_does f laws body is = record {
  does = root_does f laws [] start (template body) refl is;
  units = root_units_do f laws (block_code f body) (template body) is start (stands_behind [] (block_code f body));
}

-- The lists of all blocks of a template do what their bodies mean.
pub template_blocks_do : {C L F : Type 0} (f : Functions C F) → Laws f → (s : Stmt C L) → IsWellFormed s → DoBlocks f s
template_blocks_do f laws s well = of_blocks (λ body. DoesBlock f (block_code f body) body) (block_does f laws) s well
