use Rattle.std.proofs.Common.{◌≡◌, ◌++◌, map, take}
use Rattle.minijinja_meta.specs.Occurrences.{macros_of}
use Rattle.minijinja_lint.specs.Findings.{needs, remark_of, remarks_of}
use Rattle.minijinja_lint.proofs.lint.findings.Given as goal

-- the names that are left come after what was pushed
abbrev pub invariant-loop-name : goal.invariant-loop-name
invariant-loop-name l = map remark_of l.findings.items ++ map (λ d. needs d.0 d.1) (macros_of l.name-iterator) ≡ map (λ d. needs d.0 d.1) (macros_of l.first.entries)

abbrev pub invariant-loop-name-2 : goal.invariant-loop-name-2
invariant-loop-name-2 l = map remark_of l.findings.items ≡ remarks_of (macros_of l.first.entries) (macros_of (take l.name-index l.unused))
