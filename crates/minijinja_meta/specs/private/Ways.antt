-- Ways through parts of statements.
use Rattle.std.specs.Prelude.{codes, map}
use Rattle.minijinja_syntax.specs.declared.tokens.Span.{Span}
use Rattle.minijinja_tree.specs.SpannedErasure.{stmt_node, trees}
use Rattle.minijinja_tree.specs.SpannedTrees.{Macro, macro, stmts_of}
use Rattle.minijinja_tree.specs.declared.ast.Macro.{Macro as Node}
use Rattle.minijinja_meta.specs.Mentions.{Way, end, stores, region, through_macro}

-- a span for what stands on a way by its parts alone
abbrev pub nowhere : Span
nowhere = record { start_line = 0; start_col = 0; start_offset = 0; end_line = 0; end_col = 0; end_offset = 0 }

-- the way through a part that is a region
abbrev pub in_region : (Way → Way) → Way → Way
in_region v w = region (v end) w

-- a macro, and where it stands
abbrev pub macro_node : {V F C : Type 0} → (V → C) → Node V F → Span → Macro C
macro_node c m s = macro m.name.now (trees c m.args.items) (trees c m.defaults.items) (stmts_of (map (stmt_node c) m.body.items)) s

-- a macro where it stands in a statement
abbrev pub within_macro : {C : Type 0} → Macro C → Way → Way
within_macro m w = region (stores (codes "caller") (through_macro m end)) w
