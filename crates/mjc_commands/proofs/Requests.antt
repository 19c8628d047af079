-- Options are read one after the other, and in one way only.
use Rattle.std.proofs.Common.{inl, inr, ◌⊎◌, ◌≡◌, ◌≢◌, refl, sym, ◌∙◌, ap, subst, arith, ℕ, zero, suc, ◌+◌, ◌≤◌, ◌<◌, length, slice_index_or, Bool, List, [], ◌∷◌, ◌++◌, drop, append_assoc, true, false, Option, None, Some, IfSome, IsSome, codes, nat_eq, if◌then◌else◌}
use Rattle.std.specs.List.{All, fold, flat_map, starts_with}
use Rattle.std.specs.Str.{bytes_eq}
use Rattle.std.specs.Borrow.{Bor}
use Rattle.std.proofs.lemmas.List.{drop-map, drop-drop, length-map}
use Rattle.std.proofs.lemmas.List.Elements.{All-map}
use Rattle.std.proofs.lemmas.Slice.Eq.{bytes_eq-Decides}
use Rattle.minijinja_syntax.specs.Texts.{Text}
use Rattle.minijinja_syntax.specs.Syntax.{Syntax}
use Rattle.mjc_commands.specs.Each.{AskForEach, AskForSeveral, IsOnEach}
use Rattle.mjc_commands.specs.Settings.{Setting, block, variable, comment, line_statement, line_comment, trim_blocks, lstrip_blocks, keep_newline, words_of, with_setting, syntax_with, texts}
use Rattle.mjc_commands.specs.Usage.{AreApart, IsFile, Mark, bare, marked, IsPlain, Request, Task, tokens, code, names, lint, expression, replay, option_words, path_words, paths_of, command_word, Asks, IsUsage}
use Rattle.mjc_commands.specs.private.AtOptions.{option_named, setting_of, first_setting, Takes}
use Rattle.mjc_commands.specs.private.AtUsage.{AsksInput, BeginWithFile, IsOnTemplate, Name, input_request, stands}
use Rattle.mjc_commands.specs.declared.options.OptionName.{OptionName}
use Rattle.mjc_commands.specs.declared.options.OptionName.TheVariants.{Block, Variable, Comment, LineStatement, LineComment, TrimBlocks, LstripBlocks, KeepNewline}

some_injective : (p q : Setting × List Text) → Some p ≡ Some q → p ≡ q
some_injective p q e = cc

-- an option is read back from its words
first_setting-words_of : (setting : Setting) (rest : List Text) → first_setting (words_of setting ++ rest) ≡ Some (setting, rest)
unfolding option_named
first_setting-words_of (block start stop) rest = refl
first_setting-words_of (variable start stop) rest = refl
first_setting-words_of (comment start stop) rest = refl
first_setting-words_of (line_statement prefix) rest = refl
first_setting-words_of (line_comment prefix) rest = refl
first_setting-words_of trim_blocks rest = refl
first_setting-words_of lstrip_blocks rest = refl
first_setting-words_of keep_newline rest = refl

-- the word of an option
abbrev name_word : OptionName → Text
name_word Block = codes "--block"
name_word Variable = codes "--variable"
name_word Comment = codes "--comment"
name_word LineStatement = codes "--line-statement"
name_word LineComment = codes "--line-comment"
name_word TrimBlocks = codes "--trim-blocks"
name_word LstripBlocks = codes "--lstrip-blocks"
name_word KeepNewline = codes "--keep-newline"

-- a test that fails where a text has another beginning
bytes_eq-other : (word name : Text) → starts_with nat_eq name (codes "--") ≡ true → IsFile bare word → bytes_eq word name ≡ false
bytes_eq-other word name begins is_file = decided (bytes_eq word name) ((bytes_eq-Decides word name).0)
  where
    decided : (b : Bool) → (b ≡ true → word ≡ name) → b ≡ false
    decided false same = refl
    decided true same = let begun = ap (λ w. starts_with nat_eq w (codes "--")) (same refl) in cc

-- the word `--` names no file
mark_no_file : (paths qs : List Text) → paths ≡ codes "--" ∷ qs → All (IsFile bare) paths → ⊥
mark_no_file paths qs e files =
    let all : All (IsFile bare) (codes "--" ∷ qs) = subst (All (IsFile bare)) e files in
    let first : IsFile bare (codes "--") = all 0 (codes "--") (omega arith) in cc

-- a file is no option
first_setting-file : (file : Text) (rest : List Text) → IsFile bare file → first_setting (file ∷ rest) ≡ None
unfolding option_named
first_setting-file file rest is_file =
    rw (bytes_eq-other file (name_word Block) refl is_file, bytes_eq-other file (name_word Variable) refl is_file, bytes_eq-other file (name_word Comment) refl is_file, bytes_eq-other file (name_word LineStatement) refl is_file, bytes_eq-other file (name_word LineComment) refl is_file, bytes_eq-other file (name_word TrimBlocks) refl is_file, bytes_eq-other file (name_word LstripBlocks) refl is_file, bytes_eq-other file (name_word KeepNewline) refl is_file)

-- nor is the word `--`
first_setting-mark : (rest : List Text) → first_setting (codes "--" ∷ rest) ≡ None
unfolding option_named
first_setting-mark rest = refl

abbrev IsNamed : Text → Option OptionName → Type 0
IsNamed word name = IfSome name (λ n. word ≡ name_word n)

named_if : (word : Text) (name : OptionName) (later : Option OptionName) → IsNamed word later → IsNamed word (if bytes_eq word (name_word name) then Some name else later)
named_if word name later named = decided (bytes_eq word (name_word name)) ((bytes_eq-Decides word (name_word name)).0)
  where
    decided : (b : Bool) → (b ≡ true → word ≡ name_word name) → IsNamed word (if b then Some name else later)
    decided true same = same refl
    decided false same = named

is_named : (word : Text) → IsNamed word (option_named word)
unfolding option_named
is_named word =
    named_if word Block _ (named_if word Variable _ (named_if word Comment _ (named_if word LineStatement _ (named_if word LineComment _ (named_if word TrimBlocks _ (named_if word LstripBlocks _ (named_if word KeepNewline None tt)))))))

words_said : (words : List Text) (p q : Setting × List Text) → words ≡ words_of p.0 ++ p.1 → Some p ≡ Some q → words ≡ words_of q.0 ++ q.1
words_said words p q said e = said ∙ ap (λ (x : Setting × List Text). words_of x.0 ++ x.1) (some_injective p q e)

setting_of-words : (word : Text) (name : Option OptionName) (words : List Text) → IsNamed word name → (q : Setting × List Text) → setting_of name words ≡ Some q → word ∷ words ≡ words_of q.0 ++ q.1
setting_of-words word (Some Block) (start ∷ stop ∷ rest) named q e = words_said _ (block start stop, rest) q (ap (λ w. w ∷ start ∷ stop ∷ rest) named) e
setting_of-words word (Some Variable) (start ∷ stop ∷ rest) named q e = words_said _ (variable start stop, rest) q (ap (λ w. w ∷ start ∷ stop ∷ rest) named) e
setting_of-words word (Some Comment) (start ∷ stop ∷ rest) named q e = words_said _ (comment start stop, rest) q (ap (λ w. w ∷ start ∷ stop ∷ rest) named) e
setting_of-words word (Some LineStatement) (prefix ∷ rest) named q e = words_said _ (line_statement prefix, rest) q (ap (λ w. w ∷ prefix ∷ rest) named) e
setting_of-words word (Some LineComment) (prefix ∷ rest) named q e = words_said _ (line_comment prefix, rest) q (ap (λ w. w ∷ prefix ∷ rest) named) e
setting_of-words word (Some TrimBlocks) rest named q e = words_said _ (trim_blocks, rest) q (ap (λ w. w ∷ rest) named) e
setting_of-words word (Some LstripBlocks) rest named q e = words_said _ (lstrip_blocks, rest) q (ap (λ w. w ∷ rest) named) e
setting_of-words word (Some KeepNewline) rest named q e = words_said _ (keep_newline, rest) q (ap (λ w. w ∷ rest) named) e
setting_of-words word _ _ named q e = cc

-- what is read as an option are its words
first_setting-is : (words : List Text) (q : Setting × List Text) → first_setting words ≡ Some q → words ≡ words_of q.0 ++ q.1
first_setting-is [] q e = cc
first_setting-is (word ∷ words) q e = setting_of-words word (option_named word) words (is_named word) q e

-- paths are no option
first_setting-paths : (paths : List Text) → BeginWithFile paths → first_setting paths ≡ None
first_setting-paths [] begin = absurd begin
first_setting-paths (file ∷ rest) (inl is_file) = first_setting-file file rest is_file
first_setting-paths (word ∷ rest) (inr is) = rw is (first_setting-mark rest)

-- from a syntax, words read as options make another, and end in paths
pub data Reads : Syntax → List Text → Syntax → List Text → Type 0 where
  over : {s : Syntax} {paths : List Text} → BeginWithFile paths → Reads s paths s paths
  more : {s : Syntax} {words : List Text} {t : Syntax} {paths : List Text} (q : Setting × List Text) → first_setting words ≡ Some q → Reads (with_setting s q.0) q.1 t paths → Reads s words t paths

-- options and paths are read
pub option_words-read : (s : Syntax) (settings : List Setting) (paths : List Text) → BeginWithFile paths → Reads s (option_words settings paths) (fold with_setting s settings) paths
option_words-read s [] paths begin = over begin
option_words-read s (setting ∷ settings) paths begin =
    let rest : List Text = option_words settings paths in
    more (setting, rest) (rw append_assoc (first_setting-words_of setting rest)) (option_words-read (with_setting s setting) settings paths begin)

-- what is read are options and paths
pub read_words : {s t : Syntax} {words : List Text} {paths : List Text} → Reads s words t paths → (settings : List Setting) × (words ≡ option_words settings paths)
read_words (over begin) = ([], refl)
read_words (more {words = words} {paths = paths} q e later) =
    let ih = read_words later in
    (q.0 ∷ ih.0, first_setting-is words q e ∙ (ap (λ rest. words_of q.0 ++ rest) ih.1 ∙ sym (append_assoc (words_of q.0) (flat_map words_of ih.0) paths)))

-- after the first option reading goes on
pub read_on : {s t : Syntax} {words : List Text} {paths : List Text} (q : Setting × List Text) → first_setting words ≡ Some q → Reads s words t paths → Reads (with_setting s q.0) q.1 t paths
read_on q e (over {paths = paths} begin) = let none = first_setting-paths paths begin in absurd cc
read_on q e (more {s = s} {t = t} {paths = paths} p first later) =
    subst (λ (x : Setting × List Text). Reads (with_setting s x.0) x.1 t paths) (some_injective p q (sym first ∙ e)) later

-- where no option is left, the paths are
pub read_over : {s t : Syntax} {words : List Text} {paths : List Text} → first_setting words ≡ None → Reads s words t paths → (words ≡ paths) × (t ≡ s)
read_over e (over begin) = (refl, refl)
read_over e (more q first later) = absurd cc

-- what is taken is the first option
pub takes_some : (first : Option (Setting × List Text)) (old new : Syntax) (words : List Text) (count : ℕ) → Takes first old words (Some count) new → (q : Setting × List Text) × (first ≡ Some q) × (drop count words ≡ q.1) × (new ≡ with_setting old q.0)
takes_some (Some q) old new words count (left, made) = (q, refl, left, made)
takes_some None old new words count (none, same) = absurd cc

pub takes_none : (first : Option (Setting × List Text)) (old new : Syntax) (words : List Text) → Takes first old words None new → (first ≡ None) × (new ≡ old)
takes_none None old new words (none, same) = (refl, same)
takes_none (Some q) old new words (left, made) = absurd left

-- what is read from one place on is what is read from another on
pub record GoesOn (old : Syntax) (words : List Text) (new : Syntax) (rest : List Text) : Type 0 where
  pub onward : (t : Syntax) (paths : List Text) → Reads old words t paths → Reads new rest t paths
  pub back : (t : Syntax) (paths : List Text) → Reads new rest t paths → Reads old words t paths

goes_on-setting : (old : Syntax) (words : List Text) (new : Syntax) (rest : List Text) (q : Setting × List Text) → first_setting words ≡ Some q → rest ≡ q.1 → new ≡ with_setting old q.0 → GoesOn old words new rest
goes_on-setting old words new rest q first left made = record {
  onward = λ t paths reads. rw (left, made) (read_on q first reads);
  back = λ t paths reads.
      let step : (x : Syntax) (ws : List Text) → x ≡ new → ws ≡ rest → Reads x ws t paths = λ x ws a b. rw (a, b) reads in
      more q first (step (with_setting old q.0) q.1 (sym made) (sym left));
}

-- an option further
pub goes_on : (words : List (Bor Text)) (start count : ℕ) (here : List (Bor Text)) (old new : Syntax) → here ≡ drop start words → Takes (first_setting (texts here)) old (texts here) (Some count) new → GoesOn old (texts (drop start words)) new (texts (drop (start + count) words))
goes_on words start count here old new e takes =
    let taken = takes_some (first_setting (texts here)) old new (texts here) count takes in
    let first : first_setting (texts (drop start words)) ≡ Some taken.0 = sym (ap (λ (ws : List (Bor Text)). first_setting (texts ws)) e) ∙ taken.1 in
    let behind : texts (drop (start + count) words) ≡ drop count (texts (drop start words)) = sym (ap texts (drop-drop count start words)) ∙ sym (drop-map (λ (word : Bor Text). word.now) count (drop start words)) in
    let left : texts (drop (start + count) words) ≡ (taken.0).1 = behind ∙ (sym (ap (λ (ws : List (Bor Text)). drop count (texts ws)) e) ∙ taken.2) in
    goes_on-setting old (texts (drop start words)) new (texts (drop (start + count) words)) taken.0 first left taken.3

-- no option further: the paths are left
pub goes_over : (words here last : List (Bor Text)) (start : ℕ) (initial old new : Syntax) → here ≡ drop start words → last ≡ drop start words → Takes (first_setting (texts here)) old (texts here) None new → ((t : Syntax) (paths : List Text) → Reads initial (texts words) t paths → Reads old (texts (drop start words)) t paths) → (settings : List Setting) (paths : List Text) → BeginWithFile paths → texts words ≡ option_words settings paths → (texts last ≡ paths) × (new ≡ fold with_setting initial settings)
goes_over words here last start initial old new e f takes onward settings paths begin asked =
    let none = takes_none (first_setting (texts here)) old new (texts here) takes in
    let first : first_setting (texts (drop start words)) ≡ None = sym (ap (λ (ws : List (Bor Text)). first_setting (texts ws)) e) ∙ none.0 in
    let all : Reads initial (texts words) (fold with_setting initial settings) paths = rw asked (option_words-read initial settings paths begin) in
    let over = read_over first (onward (fold with_setting initial settings) paths all) in
    (ap texts f ∙ over.0, none.1 ∙ sym over.1)

-- words that name paths begin with no option
names_begin : (mark : Mark) (path : Text) (rest : List Text) → All (IsFile mark) (path ∷ rest) → BeginWithFile (path_words mark (path ∷ rest))
names_begin bare path rest files = inl (files 0 path (omega arith))
names_begin marked path rest files = inr refl

-- the words for the paths of a task do
pub paths_begin : (mark : Mark) (task : Task) (file : Text) → All (IsFile mark) (paths_of task file) → BeginWithFile (path_words mark (paths_of task file))
paths_begin mark tokens file files = names_begin mark file [] files
paths_begin mark code file files = names_begin mark file [] files
paths_begin mark names file files = names_begin mark file [] files
paths_begin mark lint file files = names_begin mark file [] files
paths_begin mark expression file files = names_begin mark file [] files
paths_begin mark (replay answers) file files = names_begin mark file (answers ∷ []) files

-- where words name the paths of a task, they begin with no option
pub name_begin : (words : List Text) (task : Task) (file : Text) → Name words (paths_of task file) → BeginWithFile words
name_begin words task file (stands mark is files) = rw is (paths_begin mark task file files)

-- words name one list of paths
pub name_once : (mark : Mark) (words ps qs : List Text) → Name words ps → words ≡ path_words mark qs → All (IsFile mark) qs → ps ≡ qs
name_once bare words ps qs (stands bare is files) same all = sym is ∙ same
name_once marked words ps qs (stands bare is files) same all = absurd (mark_no_file ps qs (sym is ∙ same) files)
name_once bare words ps qs (stands marked is files) same all = absurd (mark_no_file qs ps (sym same ∙ is) all)
name_once marked words ps qs (stands marked is files) same all = let one = sym is ∙ same in cc

-- words after `--` name paths
pub name_marked : (words paths : List (Bor Text)) (word : Bor Text) → words ≡ word ∷ paths → word.now ≡ codes "--" → Name (texts words) (texts paths)
name_marked words paths word e is = stands marked (ap texts e ∙ ap (λ w. w ∷ texts paths) is) (λ k d below. tt)

-- words of which none begins with `--` name paths
pub name_bare : (words : List (Bor Text)) → All (λ word. IsFile bare word.now) words → Name (texts words) (texts words)
name_bare words files = stands bare refl (All-map (IsFile bare) (λ (word : Bor Text). word.now) words files)

-- words that do not compare equal differ
words_differ : (word other : Text) → bytes_eq word other ≡ false → word ≢ other
words_differ word other apart same = let compared = (bytes_eq-Decides word other).1 same in absurd cc

-- a word that compares as `--` is it
pub is_mark : (word : Text) → bytes_eq word (codes "--") ≡ true → word ≡ codes "--"
is_mark word same = (bytes_eq-Decides word (codes "--")).0 same

-- words of which the first is another do not begin with `--`
pub no_mark : (words : List (Bor Text)) (word : Bor Text) (rest : List (Bor Text)) → words ≡ word ∷ rest → bytes_eq word.now (codes "--") ≡ false → (paths : List Text) → texts words ≡ codes "--" ∷ paths → ⊥
no_mark words word rest e apart paths same =
    let all = sym (ap texts e) ∙ same in
    let first : word.now ≡ codes "--" = cc in
    words_differ word.now (codes "--") apart first

-- nor do no words
pub none_marked : (words : List (Bor Text)) → length words ≡ 0 → (paths : List Text) → texts words ≡ codes "--" ∷ paths → ⊥
none_marked [] none paths same = cc
none_marked (w ∷ ws) none paths same = absurd (omega arith)

-- what holds of each text holds of each word
pub each_text : (P : Text → Type 0) (words : List (Bor Text)) → All P (texts words) → All (λ word. P word.now) words
each_text P [] all k d below = absurd (omega arith)
each_text P (w ∷ ws) all zero d below = all zero d.now (omega arith)
each_text P (w ∷ ws) all (suc k) d below = each_text P ws (λ j e less. all (suc j) e (omega arith)) k d (omega arith)

-- words that neither begin with `--` nor are all files name no paths
pub names_nothing : (words : List (Bor Text)) → ((paths : List Text) → texts words ≡ codes "--" ∷ paths → ⊥) → (All (λ word. IsFile bare word.now) words → ⊥) → (paths : List Text) → Name (texts words) paths → ⊥
names_nothing words unmarked none paths (stands bare is files) = none (each_text (IsFile bare) words (subst (All (IsFile bare)) (sym is) files))
names_nothing words unmarked none paths (stands marked is files) = unmarked paths is

-- on a template every request is allowed
plain_on_template : (task : Task) → IsOnTemplate task → (settings : List Setting) (mark : Mark) (file : Text) → IsPlain task settings mark file
plain_on_template tokens template settings mark file = tt
plain_on_template code template settings mark file = tt
plain_on_template names template settings mark file = tt
plain_on_template lint template settings mark file = tt
plain_on_template expression template settings mark file = absurd template
plain_on_template (replay answers) template settings mark file = tt

-- the words of a command, of options and of paths are asked for
pub asks : (args : List (Bor Text)) (word : Bor Text) (rest : List (Bor Text)) (behind : List Text) (task : Task) (settings : List Setting) (file : Text) → args ≡ word ∷ rest → IsOnTemplate task → word.now ≡ command_word task → Name behind (paths_of task file) → AreApart task file → texts rest ≡ option_words settings behind → (request : Request) × Asks args request × (request.task ≡ task)
asks args word rest behind task settings file e template is (stands mark same files) apart said = (
  record { task = task; settings = settings; mark = mark; file = file },
  record {
    words = ap texts e ∙ (ap (λ w. w ∷ texts rest) is ∙ ap (λ ws. command_word task ∷ ws) (said ∙ ap (option_words settings) same));
    files = files;
    apart = apart;
    plain = plain_on_template task template settings mark file;
  },
  refl,
)

-- words that name a path begin with no option
pub some_begin : (words paths : List Text) (path : Text) (rest : List Text) → paths ≡ path ∷ rest → Name words paths → BeginWithFile words
some_begin words paths path rest e (stands mark is files) =
    let begin : BeginWithFile (path_words mark paths) = rw e (names_begin mark path rest (subst (All (IsFile mark)) e files)) in
    rw is begin

-- the words of a command, of options and of paths ask for a task on each of these
pub ask_for_each : (args : List (Bor Text)) (word : Bor Text) (rest : List (Bor Text)) (behind : List Text) (task : Task) (settings : List Setting) (syntax : Syntax) (paths : List Text) → args ≡ word ∷ rest → IsOnEach task → word.now ≡ command_word task → Name behind paths → texts rest ≡ option_words settings behind → syntax ≡ syntax_with settings → AskForEach args task syntax paths
ask_for_each args word rest behind task settings syntax paths e on is (stands mark same files) said specified = record {
  each = on;
  settings = settings;
  mark = mark;
  words = ap texts e ∙ (ap (λ w. w ∷ texts rest) is ∙ ap (λ ws. command_word task ∷ ws) (said ∙ ap (option_words settings) same));
  files = files;
  specified = specified;
}

-- the first word is that of the command that is asked for
pub word_asked : (args : List (Bor Text)) (word : Bor Text) (rest : List (Bor Text)) (request : Request) → args ≡ word ∷ rest → Asks args request → word.now ≡ command_word request.task
word_asked args word rest request e asked = let same = sym (ap texts e) ∙ asked.words in cc

-- the words after it are its options and those for its paths
pub rest_asked : (args : List (Bor Text)) (word : Bor Text) (rest : List (Bor Text)) (request : Request) → args ≡ word ∷ rest → Asks args request → texts rest ≡ option_words request.settings (path_words request.mark (paths_of request.task request.file))
rest_asked args word rest request e asked = let same = sym (ap texts e) ∙ asked.words in cc

-- the words left by its options name the paths that are asked for
pub name_asked : {Made : List Setting → Type 0} (args : List (Bor Text)) (word : Bor Text) (rest left : List (Bor Text)) → args ≡ word ∷ rest → ((settings : List Setting) (behind : List Text) → BeginWithFile behind → texts rest ≡ option_words settings behind → (texts left ≡ behind) × Made settings) → (request : Request) → Asks args request → Name (texts left) (paths_of request.task request.file)
name_asked args word rest left e heeded request asked =
    let behind = path_words request.mark (paths_of request.task request.file) in
    let begin = paths_begin request.mark request.task request.file asked.files in
    let read = heeded request.settings behind begin (rest_asked args word rest request e asked) in
    stands request.mark read.0 asked.files

-- a command on a template is one task, on one file
pub same_asked : (t u : Task) (file other : Text) → IsOnTemplate t → IsOnTemplate u → command_word t ≡ command_word u → paths_of t file ≡ paths_of u other → (t ≡ u) × (file ≡ other)
same_asked expression u file other on too w p = absurd on
same_asked tokens tokens file other on too w p = (refl, cc)
same_asked tokens code file other on too w p = absurd cc
same_asked tokens names file other on too w p = absurd cc
same_asked tokens lint file other on too w p = absurd cc
same_asked tokens expression file other on too w p = absurd too
same_asked tokens (replay b) file other on too w p = absurd cc
same_asked code tokens file other on too w p = absurd cc
same_asked code code file other on too w p = (refl, cc)
same_asked code names file other on too w p = absurd cc
same_asked code lint file other on too w p = absurd (words_differ (codes "code") (codes "lint") refl w)
same_asked code expression file other on too w p = absurd too
same_asked code (replay b) file other on too w p = absurd cc
same_asked names tokens file other on too w p = absurd cc
same_asked names code file other on too w p = absurd cc
same_asked names names file other on too w p = (refl, cc)
same_asked names lint file other on too w p = absurd cc
same_asked names expression file other on too w p = absurd too
same_asked names (replay b) file other on too w p = absurd cc
same_asked lint tokens file other on too w p = absurd cc
same_asked lint code file other on too w p = absurd (words_differ (codes "lint") (codes "code") refl w)
same_asked lint names file other on too w p = absurd cc
same_asked lint lint file other on too w p = (refl, cc)
same_asked lint expression file other on too w p = absurd too
same_asked lint (replay b) file other on too w p = absurd cc
same_asked (replay a) tokens file other on too w p = absurd cc
same_asked (replay a) code file other on too w p = absurd cc
same_asked (replay a) names file other on too w p = absurd cc
same_asked (replay a) lint file other on too w p = absurd cc
same_asked (replay a) expression file other on too w p = absurd too
same_asked (replay a) (replay b) file other on too w p = (cc, cc)

dash_is_file : All (IsFile bare) (codes "-" ∷ [])
dash_is_file zero d below = refl
dash_is_file (suc k) d below = absurd (omega arith)

-- `expr -` asks for what standard input holds
pub asks_input : (args : List (Bor Text)) → AsksInput args → Asks args input_request
asks_input args is = record { words = is; files = dash_is_file; apart = tt; plain = (refl, refl, refl) }

-- nothing is returned where nothing is asked for
pub unasked : {A B : Type 0} (r : Option A) → r ≡ None → (B → ⊥) → (IsSome r → B) × (B → IsSome r)
unasked None none never = (λ some. absurd cc, λ asked. absurd (never asked))
unasked (Some x) none never = absurd cc

-- two words, of which the first is `expr`
pub expr_words : (args : List (Bor Text)) (d e : Bor Text) → 2 ≤ length args → length args < 3 → bytes_eq (slice_index_or args 0 d).now (codes "expr") ≡ true → texts args ≡ codes "expr" ∷ (slice_index_or args 1 e).now ∷ []
expr_words [] d e least below same = absurd (omega arith)
expr_words (a ∷ []) d e least below same = absurd (omega arith)
expr_words (a ∷ b ∷ []) d e least below same = ap (λ (w : Text). w ∷ b.now ∷ []) ((bytes_eq-Decides a.now (codes "expr")).0 same)
expr_words (a ∷ b ∷ c ∷ rest) d e least below same = absurd (omega arith)

-- words that name several paths begin with no option
several_begin : (mark : Mark) (paths : List Text) → 2 ≤ length paths → All (IsFile mark) paths → BeginWithFile (path_words mark paths)
several_begin mark [] several files = absurd (omega arith)
several_begin mark (path ∷ rest) several files = names_begin mark path rest files

-- of several files, the words left by the options name the paths
pub several_read : {Made : List Setting → Type 0} (args : List (Bor Text)) (word : Bor Text) (rest left : List (Bor Text)) → args ≡ word ∷ rest → ((settings : List Setting) (behind : List Text) → BeginWithFile behind → texts rest ≡ option_words settings behind → (texts left ≡ behind) × Made settings) → (task : Task) (syntax : Syntax) (paths : List Text) (asks : AskForSeveral args task syntax paths) → (texts left ≡ path_words asks.asked.mark paths) × Made asks.asked.settings
several_read args word rest left e heeded task syntax paths asks =
    let same = sym (ap texts e) ∙ asks.asked.words in
    heeded asks.asked.settings (path_words asks.asked.mark paths) (several_begin asks.asked.mark paths asks.several asks.asked.files) cc

-- and the first word is that of the command
pub several_word : (args : List (Bor Text)) (word : Bor Text) (rest : List (Bor Text)) → args ≡ word ∷ rest → (task : Task) (syntax : Syntax) (paths : List Text) → AskForSeveral args task syntax paths → word.now ≡ command_word task
several_word args word rest e task syntax paths asks = let same = sym (ap texts e) ∙ asks.asked.words in cc

-- several paths are neither none nor one
pub not_several : (words : List (Bor Text)) (paths : List Text) → texts words ≡ paths → length words ≤ 1 → 2 ≤ length paths → ⊥
not_several words paths same few several =
    let long : length paths ≡ length words = ap length (sym same) ∙ length-map words (λ (word : Bor Text). word.now) in
    omega (arith, long)

-- such a task has one of two words
each_word : (task : Task) → IsOnEach task → (word : Text) → word ≡ command_word task → (word ≡ codes "names") ⊎ (word ≡ codes "lint")
each_word names each word is = inl is
each_word lint each word is = inr is
each_word tokens each word is = absurd each
each_word code each word is = absurd each
each_word expression each word is = absurd each
each_word (replay answers) each word is = absurd each

-- and a command of such a word has one path
one_path : (task : Task) (file : Text) (word : Text) → word ≡ command_word task → (word ≡ codes "names") ⊎ (word ≡ codes "lint") → length (paths_of task file) ≡ 1
one_path tokens file word is either = refl
one_path code file word is either = refl
one_path names file word is either = refl
one_path lint file word is either = refl
one_path expression file word is either = refl
one_path (replay answers) file word is (inl named) = cc
one_path (replay answers) file word is (inr linted) = cc

-- a word is not two that differ
no_two_words : (word a b : Text) → bytes_eq a b ≡ false → word ≡ a → word ≡ b → ⊥
no_two_words word a b apart first second = words_differ a b apart (sym first ∙ second)

-- it is the word of no command of another kind
no_other_word : (word : Text) → (word ≡ codes "names") ⊎ (word ≡ codes "lint") → (word ≡ codes "expr") ⊎ ((word ≡ codes "--help") ⊎ (word ≡ codes "-h") ⊎ (word ≡ codes "help")) ⊎ (word ≡ codes "--version") → ⊥
no_other_word word (inl named) (inl other) = no_two_words word (codes "names") (codes "expr") refl named other
no_other_word word (inl named) (inr (inl (inl other))) = no_two_words word (codes "names") (codes "--help") refl named other
no_other_word word (inl named) (inr (inl (inr (inl other)))) = no_two_words word (codes "names") (codes "-h") refl named other
no_other_word word (inl named) (inr (inl (inr (inr other)))) = no_two_words word (codes "names") (codes "help") refl named other
no_other_word word (inl named) (inr (inr other)) = no_two_words word (codes "names") (codes "--version") refl named other
no_other_word word (inr linted) (inl other) = no_two_words word (codes "lint") (codes "expr") refl linted other
no_other_word word (inr linted) (inr (inl (inl other))) = no_two_words word (codes "lint") (codes "--help") refl linted other
no_other_word word (inr linted) (inr (inl (inr (inl other)))) = no_two_words word (codes "lint") (codes "-h") refl linted other
no_other_word word (inr linted) (inr (inl (inr (inr other)))) = no_two_words word (codes "lint") (codes "help") refl linted other
no_other_word word (inr linted) (inr (inr other)) = no_two_words word (codes "lint") (codes "--version") refl linted other

first_word : (args : List (Bor Text)) (word : Bor Text) (rest : List (Bor Text)) (w : Text) (ws : List Text) → args ≡ word ∷ rest → texts args ≡ w ∷ ws → word.now ≡ w
first_word args word rest w ws e is = let same = sym (ap texts e) ∙ is in cc

-- words that ask for a task on several files ask for nothing else
pub several_alone : {Made : List Setting → Type 0} (args : List (Bor Text)) (word : Bor Text) (rest left : List (Bor Text)) (task : Task) (paths : List Text) → args ≡ word ∷ rest → ((settings : List Setting) (behind : List Text) → BeginWithFile behind → texts rest ≡ option_words settings behind → (texts left ≡ behind) × Made settings) → IsOnEach task → word.now ≡ command_word task → Name (texts left) paths → 2 ≤ length paths → IsUsage args → ⊥
several_alone args word rest left task paths e heeded each is (stands mark same files) several (inl usage) =
    let request = usage.request in
    let one : length (paths_of request.task request.file) ≡ 1 = one_path request.task request.file word.now (word_asked args word rest request e usage.asks) (each_word task each word.now is) in
    let named = name_asked args word rest left e heeded request usage.asks in
    let listed : length (paths_of request.task request.file) ≡ length paths = ap length (name_once mark (texts left) (paths_of request.task request.file) paths named same files) in
    omega (arith, one, listed, several)
several_alone args word rest left task paths e heeded each is named several (inr (inl usage)) = no_other_word word.now (each_word task each word.now is) (inl (first_word args word rest _ _ e usage.asks.words))
several_alone args word rest left task paths e heeded each is named several (inr (inr (inl (inl help)))) = no_other_word word.now (each_word task each word.now is) (inr (inl (inl (first_word args word rest _ _ e help))))
several_alone args word rest left task paths e heeded each is named several (inr (inr (inl (inr (inl help))))) = no_other_word word.now (each_word task each word.now is) (inr (inl (inr (inl (first_word args word rest _ _ e help)))))
several_alone args word rest left task paths e heeded each is named several (inr (inr (inl (inr (inr help))))) = no_other_word word.now (each_word task each word.now is) (inr (inl (inr (inr (first_word args word rest _ _ e help)))))
several_alone args word rest left task paths e heeded each is named several (inr (inr (inr version))) = no_other_word word.now (each_word task each word.now is) (inr (inr (first_word args word rest _ _ e version)))
