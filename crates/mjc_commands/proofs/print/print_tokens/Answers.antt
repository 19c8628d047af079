-- Each turn writes a token more.
use Rattle.std.proofs.Common.{rules, ◌≡◌, ◌++◌, ◌∷◌, [], ◌∙◌, ap, append_assoc, sym}
use Rattle.minijinja_syntax.specs.Streams.{SpannedTok, Stream, before}
use Rattle.minijinja_syntax.specs.Tokens.{tok_of}
use Rattle.mjc_commands.specs.PrintedTokens.{token_line}
use Rattle.mjc_commands.proofs.Written.{line_more}
use Rattle.mjc_commands.proofs.print.print_tokens.Goals as goal

pub loop-token-preserved-in_ok-print_token-in-Ok-Some : goal.loop-token-preserved-in_ok-print_token-in-Ok-Some
loop-token-preserved-in_ok-print_token-in-Ok-Some g c =
    let so_far = c.loop-token.invariant in
    let t : SpannedTok = (tok_of c.in-Ok-Some.token, c.in-Ok-Some.span) in
    let took : c.loop-token.tokens.stream ≡ before (t ∷ []) c.next_token.new.self.stream = search rules in
    record {
      ending = search rules;
      unfailed = search rules;
      first = so_far.first ++ t ∷ [];
      are = so_far.are ∙ ap (λ (s : Stream). so_far.first ++ s.tokens) took ∙ sym (append_assoc so_far.first (t ∷ []) c.next_token.new.self.stream.tokens);
      written = line_more token_line so_far.first t so_far.written c.in_ok-print_token-in-Ok-Some.ensures.printed;
    }

pub loop-token-preserved-in_ok-print_token-in-Ok-Some-2 : goal.loop-token-preserved-in_ok-print_token-in-Ok-Some-2
loop-token-preserved-in_ok-print_token-in-Ok-Some-2 g c =
    let so_far = c.loop-token.invariant in
    let t : SpannedTok = (tok_of c.in-Ok-Some.token, c.in-Ok-Some.span) in
    let took : c.loop-token.tokens.stream ≡ before (t ∷ []) c.next_token.new.self.stream = search rules in
    record {
      ending = search rules;
      unfailed = search rules;
      first = so_far.first ++ t ∷ [];
      are = so_far.are ∙ ap (λ (s : Stream). so_far.first ++ s.tokens) took ∙ sym (append_assoc so_far.first (t ∷ []) c.next_token.new.self.stream.tokens);
      written = line_more token_line so_far.first t so_far.written c.in_ok-print_token-in-Ok-Some.ensures.printed;
    }

pub loop-token-preserved : goal.loop-token-preserved
loop-token-preserved g c =
    let so_far = c.loop-token.invariant in
    let t : SpannedTok = (tok_of c.in-Ok-Some.token, c.in-Ok-Some.span) in
    let took : c.loop-token.tokens.stream ≡ before (t ∷ []) c.next_token.new.self.stream = search rules in
    record {
      ending = search rules;
      unfailed = search rules;
      first = so_far.first ++ t ∷ [];
      are = so_far.are ∙ ap (λ (s : Stream). so_far.first ++ s.tokens) took ∙ sym (append_assoc so_far.first (t ∷ []) c.next_token.new.self.stream.tokens);
      written = line_more token_line so_far.first t so_far.written c.in_ok-print_token-in-Ok-Some.ensures.printed;
    }
