-- Where the nodes of a tree stand.
use Rattle.std.specs.Prelude.{List, [], ◌∷◌}
use Rattle.minijinja_syntax.specs.Tokens.{ident, template_data}
use Rattle.minijinja_syntax.specs.declared.tokens.Span.{Span}
use Rattle.minijinja_syntax.specs.Streams.{SpannedTok}
use Rattle.minijinja_tree.specs.SpannedTrees.{Expr, variable, constant, slice, unary, binary, compare, if_expr, filter, test, attribute, item, call, list, tuple, map, Optional, absent, present, Exprs, no_more, more, Comparisons, compared, against, Args, no_args, pos, pos_splat, kwarg, kwarg_splat, Stmt, template, data_text, output, assignment, for_loop, if_cond, with_block, set_block, auto_escape, filter_block, named_block, extends, include, import_all, from_import, declare, call_block, do_call, break_loop, continue_loop, Stmts, done, also, Macro, macro}

module _ {C : Type 0} (T : SpannedTok → Type 0) (S : Span → Type 0) where
  abbrev mutual
    -- the span of a variable is that of its identifier, which is such a token, and that of any
    -- other node such a span
    pub Stands : Expr C → Type 0
    Stands (variable x s) = T (ident x, s)
    Stands (constant c s) = S s
    Stands (slice e start stop step s) = S s × Stands e × StandsIfAny start × StandsIfAny stop × StandsIfAny step
    Stands (unary o e s) = S s × Stands e
    Stands (binary o l r s) = S s × Stands l × Stands r
    Stands (compare e cs s) = S s × Stands e × CompareStand cs
    Stands (if_expr t e o s) = S s × Stands t × Stands e × StandsIfAny o
    Stands (filter e x args s) = S s × StandsIfAny e × ArgsStand args
    Stands (test e x args s) = S s × Stands e × ArgsStand args
    Stands (attribute e x s) = S s × Stands e
    Stands (item e i s) = S s × Stands e × Stands i
    Stands (call e args s) = S s × Stands e × ArgsStand args
    Stands (list es s) = S s × ExprsStand es
    Stands (tuple es s) = S s × ExprsStand es
    Stands (map ks vs s) = S s × ExprsStand ks × ExprsStand vs

    pub StandsIfAny : Optional C → Type 0
    StandsIfAny absent = Unit {0}
    StandsIfAny (present e) = Stands e

    pub ExprsStand : Exprs C → Type 0
    ExprsStand no_more = Unit {0}
    ExprsStand (more e es) = Stands e × ExprsStand es

    pub CompareStand : Comparisons C → Type 0
    CompareStand compared = Unit {0}
    CompareStand (against o e cs) = Stands e × CompareStand cs

    pub ArgsStand : Args C → Type 0
    ArgsStand no_args = Unit {0}
    ArgsStand (pos e xs) = Stands e × ArgsStand xs
    ArgsStand (pos_splat e xs) = Stands e × ArgsStand xs
    ArgsStand (kwarg x e xs) = Stands e × ArgsStand xs
    ArgsStand (kwarg_splat e xs) = Stands e × ArgsStand xs

  -- each target and its value
  abbrev pub BindingsStand : List (Expr C × Expr C) → Type 0
  BindingsStand [] = Unit {0}
  BindingsStand (b ∷ bs) = Stands b.0 × Stands b.1 × BindingsStand bs

  abbrev pub AllStand : List (Expr C) → Type 0
  AllStand [] = Unit {0}
  AllStand (e ∷ es) = Stands e × AllStand es

  -- each name and its alias
  abbrev pub NamesStand : List (Expr C × Optional C) → Type 0
  NamesStand [] = Unit {0}
  NamesStand (n ∷ ns) = Stands n.0 × StandsIfAny n.1 × NamesStand ns

  abbrev mutual
    -- the span of data is that of its token
    pub StmtStands : Stmt C → Type 0
    StmtStands (template ss s) = S s × StmtsStand ss
    StmtStands (data_text t s) = T (template_data t, s)
    StmtStands (output e s) = S s × Stands e
    StmtStands (assignment t e s) = S s × Stands t × Stands e
    StmtStands (for_loop t e only again ss other s) = S s × Stands t × Stands e × StandsIfAny only × StmtsStand ss × StmtsStand other
    StmtStands (if_cond e ss other s) = S s × Stands e × StmtsStand ss × StmtsStand other
    StmtStands (with_block bs ss s) = S s × BindingsStand bs × StmtsStand ss
    StmtStands (set_block t e ss s) = S s × Stands t × StandsIfAny e × StmtsStand ss
    StmtStands (auto_escape e ss s) = S s × Stands e × StmtsStand ss
    StmtStands (filter_block e ss s) = S s × Stands e × StmtsStand ss
    StmtStands (named_block x required ss s) = S s × StmtsStand ss
    StmtStands (extends e s) = S s × Stands e
    StmtStands (include e ignore s) = S s × Stands e
    StmtStands (import_all e t s) = S s × Stands e × Stands t
    StmtStands (from_import e ns s) = S s × Stands e × NamesStand ns
    StmtStands (declare m) = MacroStands m
    StmtStands (call_block e args from m s) = S s × S from × Stands e × ArgsStand args × MacroStands m
    StmtStands (do_call e args from s) = S s × S from × Stands e × ArgsStand args
    StmtStands (break_loop s) = S s
    StmtStands (continue_loop s) = S s

    pub StmtsStand : Stmts C → Type 0
    StmtsStand done = Unit {0}
    StmtsStand (also s ss) = StmtStands s × StmtsStand ss

    pub MacroStands : Macro C → Type 0
    MacroStands (macro x args defaults ss s) = S s × AllStand args × AllStand defaults × StmtsStand ss
