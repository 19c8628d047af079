-- The tokens of the grammar that `Mark`, `Keyword`, `Ends` and `Part` name.
use Rattle.std.specs.Prelude.{Bool, true, is_some}
use Rattle.minijinja_syntax.specs.Tokens as tok
use Rattle.minijinja_syntax.specs.Tokens.{Tok}
use Rattle.minijinja_grammar.specs.internal.StmtForms as stmt_forms
use Rattle.minijinja_grammar.specs.Statements as statements
use Rattle.minijinja_grammar.specs.Targets as targets
use Rattle.minijinja_grammar.specs.Words as words
use Rattle.minijinja_grammar.specs.internal.Keywords as keywords
use Rattle.minijinja_parser_tokens.specs.declared.marks.Ends.{Ends}
use Rattle.minijinja_parser_tokens.specs.declared.marks.Ends.TheVariants as ends
use Rattle.minijinja_parser_tokens.specs.declared.marks.Mark.{Mark}
use Rattle.minijinja_parser_tokens.specs.declared.marks.Mark.TheVariants as mark
use Rattle.minijinja_parser_tokens.specs.declared.words.Keyword.{Keyword}
use Rattle.minijinja_parser_tokens.specs.declared.words.Keyword.TheVariants as keyword
use Rattle.minijinja_parser_tokens.specs.declared.marks.Part.{Part}
use Rattle.minijinja_parser_tokens.specs.declared.marks.Part.TheVariants as part

-- the token
abbrev pub mark_tok : Mark → Tok
mark_tok mark.If = words.if_word
mark_tok mark.Elif = words.elif_word
mark_tok mark.Else = words.else_word
mark_tok mark.Recursive = words.recursive_word
mark_tok mark.As = words.as_word
mark_tok mark.Import = words.import_word
mark_tok mark.Scoped = words.scoped_word
mark_tok mark.Required = words.required_word
mark_tok mark.Ignore = words.ignore_word
mark_tok mark.Missing = words.missing_word
mark_tok mark.Context = words.context_word
mark_tok mark.EndFor = words.endfor_word
mark_tok mark.EndIf = words.endif_word
mark_tok mark.EndWith = words.endwith_word
mark_tok mark.EndSet = words.endset_word
mark_tok mark.EndAutoEscape = words.endautoescape_word
mark_tok mark.EndFilter = words.endfilter_word
mark_tok mark.EndBlock = words.endblock_word
mark_tok mark.EndMacro = words.endmacro_word
mark_tok mark.EndCall = words.endcall_word
mark_tok mark.Not = words.not_word
mark_tok mark.In = words.in_word
mark_tok mark.Is = words.is_word
mark_tok mark.Dot = tok.dot
mark_tok mark.Comma = tok.comma
mark_tok mark.Colon = tok.colon
mark_tok mark.Assign = tok.assign
mark_tok mark.Pipe = tok.pipe
mark_tok mark.Minus = tok.minus
mark_tok mark.Mul = tok.mul
mark_tok mark.Pow = tok.pow
mark_tok mark.ParenOpen = tok.paren_open
mark_tok mark.ParenClose = tok.paren_close
mark_tok mark.BracketOpen = tok.bracket_open
mark_tok mark.BracketClose = tok.bracket_close
mark_tok mark.BraceOpen = tok.brace_open
mark_tok mark.BraceClose = tok.brace_close
mark_tok mark.VariableEnd = tok.variable_end
mark_tok mark.BlockEnd = tok.block_end

-- the word that begins a statement
abbrev pub keyword_view : Keyword → keywords.Keyword
keyword_view keyword.For = keywords.for_keyword
keyword_view keyword.If = keywords.if_keyword
keyword_view keyword.With = keywords.with_keyword
keyword_view keyword.Set = keywords.set_keyword
keyword_view keyword.AutoEscape = keywords.autoescape_keyword
keyword_view keyword.Filter = keywords.filter_keyword
keyword_view keyword.Block = keywords.block_keyword
keyword_view keyword.Extends = keywords.extends_keyword
keyword_view keyword.Include = keywords.include_keyword
keyword_view keyword.Import = keywords.import_keyword
keyword_view keyword.From = keywords.from_keyword
keyword_view keyword.Macro = keywords.macro_keyword
keyword_view keyword.Call = keywords.call_keyword
keyword_view keyword.Do = keywords.do_keyword
keyword_view keyword.Break = keywords.break_keyword
keyword_view keyword.Continue = keywords.continue_keyword

-- what a body ends at
abbrev pub ends_view : Ends → statements.Ends
ends_view ends.Text = statements.at_end_of_text
ends_view ends.EndForOrElse = statements.at_endfor_or_else
ends_view ends.EndFor = statements.at_endfor
ends_view ends.EndIfElseOrElif = statements.at_endif_else_or_elif
ends_view ends.EndIf = statements.at_endif
ends_view ends.EndWith = statements.at_endwith
ends_view ends.EndSet = statements.at_endset
ends_view ends.EndAutoEscape = statements.at_endautoescape
ends_view ends.EndFilter = statements.at_endfilter
ends_view ends.EndBlock = statements.at_endblock
ends_view ends.EndMacro = statements.at_endmacro
ends_view ends.EndCall = statements.at_endcall

-- every token, whichever it is
abbrev pub is_any : Tok → Bool
is_any t = true

-- whether the token begins the part
abbrev pub begins : Part → Tok → Bool
begins part.Expr = words.begins_expr
begins part.Arg = words.begins_arg
begins part.Postfix = words.begins_postfix
begins part.Suffix = words.begins_suffix
begins part.Comparison = words.begins_comparison
begins part.Bare = words.begins_bare
begins part.Text = λ t. is_some (words.text_of t)
begins part.Any = is_any
begins part.Name = words.is_identifier
begins part.Context = statements.begins_context
begins part.NamesEnd = statements.ends_names
begins part.SetBlock = stmt_forms.begins_set_block
begins part.TargetsEnd = targets.ends_targets
begins (part.BodyEnd e) = statements.ends_body (ends_view e)
