use Rattle.std.proofs.Common.{◌≡◌, length, map}
use Rattle.std.specs.Prelude.{if◌then◌else◌, not, filter, bytes_eq}
use Rattle.std.specs.List.{list_any}
use Rattle.minijinja_semantics.specs.Layout.{enclosing}
use Rattle.minijinja_semantics.specs.Macros.{caller}
use Rattle.minijinja_semantics.specs.Marks.{here}
use Rattle.minijinja_emitter.specs.internal.AtEmitter.{made_of, margin_of}
use Rattle.minijinja_emitter.specs.internal.Making.{Adds}
use Rattle.minijinja_code_parts.proofs.macro_parts.enclose.Given as goal

abbrev pub invariant-loop-name : goal.invariant-loop-name
invariant-loop-name g l =
    let made = made_of g.V.TemplateValue.contents in
    let xs = map (λ k. k.now.now) l.yielded in
    record {
      flags : l.flags ≡ (if list_any (bytes_eq caller) xs then 2 else 0);
      added : Adds (made l.fn.code) (made l.code) (enclosing (filter (λ x. not (bytes_eq x caller)) xs));
      marked : margin_of l.code ≡ here (length (filter (λ x. not (bytes_eq x caller)) xs)) (margin_of l.fn.code);
    }
