use Rattle.std.proofs.Common.{◌≡◌, ◌++◌, drop, take, map}
use Rattle.minijinja_semantics.specs.Pieces.{id_behind, noted_behind, id_of, noted}
use Rattle.minijinja_emitter.proofs.names.Names.id.Given as goal

abbrev pub invariant-loop-i : goal.invariant-loop-i
invariant-loop-i l =
    let all = map (λ x. x.now) l.known-items in
    record {
      id : id_behind l.i l.name (map (λ x. x.now) (drop l.i l.known-items)) ≡ id_of l.name all;
      noted : map (λ x. x.now) (take l.i l.known-items) ++ noted_behind l.i l.name (map (λ x. x.now) (drop l.i l.known-items)) ≡ noted l.name all;
    }
