-- The options of the program, as clap reads them.
-- Source: this project's own, in the words of clap's contracts.
use Rattle.std.specs.Prelude.{ℕ, ◌≡◌, ◌≢◌, ◌⊎◌, pos, false, List, [], ◌∷◌, Option, None, Some, codes, map, string_bytes}
use Rattle.std.specs.Str.Parse.{IsNumeral, digits_value, without_leading_plus}
use Rattle.clap.specs.Words.{App, Kinds, Rule, Text, new_app, new_rule, with_rule, all_of, matches_of, one_of, takes, fault_of, IsAmong}
use Rattle.clap.specs.declared.builder.{action.ArgAction.TheVariants.Set, action.ArgAction.TheVariants.Append, action.ArgAction.TheVariants.Version}
use Rattle.clap.specs.declared.builder.value_parser.ValueParser.{ValueParser}
use Rattle.clap.specs.declared.builder.value_parser.ValueParser.TheVariants.{Signed, Names}
use Rattle.clap.specs.declared.error.kind.ErrorKind.{ErrorKind, TheVariants.DisplayHelp, TheVariants.DisplayVersion}
use Rattle.qh_model.specs.declared.{form.Form.Form, limits.TheConstants.WORKER_LIMIT}
use Rattle.qh_model.specs.declared.form.Form.TheVariants as forms
use Rattle.qh_model.specs.declared.out.Out.{Out}
use Rattle.qh_model.specs.declared.out.Out.TheVariants.{Rank, Summary, Fx, Off, OffTriangles}
use Rattle.qh_command.specs.declared.help.TheConstants.{HELP, VERSION}
use Rattle.qh_command.specs.declared.command_line.ArgFault.{ArgFault, TheVariants.Help, TheVariants.Usage, TheVariants.Memory}
use Rattle.qh_command.specs.{contract.Ranges.IsInRange, declared.settings.TheConstants.BLOCK_SIZE_LIMIT, headline.SettingsValue.SettingsValue}

-- the parser of whole numbers from 1 to a limit
abbrev pub from_one_to : ℕ → ValueParser
from_one_to limit = Signed (pos 1) (pos limit)

-- an option `--name N` with a default, for numbers from 1 to a limit
abbrev pub number_option : Text → Text → ℕ → Rule
number_option name default limit = record (new_rule name) {
  long = Some name;
  action = Some Set;
  value_names = 1;
  defaults = default ∷ [];
  parser = Some (from_one_to limit);
}

-- the flag `--version`
abbrev pub version_flag : Rule
version_flag = record (new_rule (codes "version")) { long = Some (codes "version"); action = Some Version }

-- the words OUT, each of which this parser accepts
abbrev pub outs_rule : ValueParser → Rule
outs_rule parser = record (new_rule (codes "outs")) { action = Some Append; value_names = 1; parser = Some parser }

-- the option `--from FORM`, with the point file as its default, each of whose words this parser accepts
abbrev pub from_option : ValueParser → Rule
from_option parser = record (new_rule (codes "from")) {
  long = Some (codes "from");
  action = Some Set;
  value_names = 1;
  defaults = codes "qhull" ∷ [];
  parser = Some parser;
}

-- the command
abbrev pub program : ValueParser → ValueParser → App
program from outs = with_rule (with_rule (with_rule (with_rule (with_rule (new_app (codes "qconvex")) version_flag) (from_option from))
    (number_option (codes "workers") (codes "4") WORKER_LIMIT)) (number_option (codes "block") (codes "4096") BLOCK_SIZE_LIMIT)) (outs_rule outs)

-- the word of an output
abbrev pub word_of : Out → Text
word_of Rank = codes "rank"
word_of Summary = codes "s"
word_of Fx = codes "Fx"
word_of Off = codes "off"
word_of OffTriangles = codes "offt"

-- the word of a form
abbrev pub form_word : Form → Text
form_word forms.Qhull = codes "qhull"
form_word forms.Off = codes "off"

-- the words that a parser accepts, if it accepts specific words only
abbrev pub words_taken : ValueParser → List Text
words_taken (Names names) = map (λ w. w.now) names.now
words_taken _ = []

-- the command whose FORM is the word of a form, and whose OUT is that of an output
abbrev pub IsProgram : App → Type 0
IsProgram app = (from : ValueParser) × (outs : ValueParser) × (words_taken from ≡ map form_word (forms.Qhull ∷ forms.Off ∷ []))
    × (words_taken outs ≡ map word_of (Rank ∷ Summary ∷ Fx ∷ Off ∷ OffTriangles ∷ [])) × (app ≡ program from outs)

-- the number that a text denotes
abbrev pub NumberOf : Option Text → ℕ → Type 0
NumberOf text n = (t : Text) × (text ≡ Some t) × IsNumeral 10 (without_leading_plus t) × (n ≡ digits_value 10 (without_leading_plus t))

-- the outputs of the words OUT, in their order; the summary alone if there is no word
abbrev pub AreOutsOf : Option (List Text) → List Out → Type 0
AreOutsOf None outs = outs ≡ Summary ∷ []
AreOutsOf (Some words) outs = map word_of outs ≡ words

-- the form of the word FORM
abbrev pub IsFormOf : Option (List Text) → Form → Type 0
IsFormOf words form = words ≡ Some (form_word form ∷ [])

-- the settings have the values of the options and the outputs, in the command's matches of the words
pub record AreSettingsIn (app : App) (words : List Text) (s : SettingsValue) : Type 0 where
  pub workers : NumberOf (one_of (codes "workers") (matches_of app words)) s.workers
  pub block : NumberOf (one_of (codes "block") (matches_of app words)) s.block
  pub outs : AreOutsOf (all_of (codes "outs") (matches_of app words)) s.outs
  pub form : IsFormOf (all_of (codes "from") (matches_of app words)) s.form

-- the same, in those of the program
abbrev pub AreSettingsOf : List Text → SettingsValue → Type 0
AreSettingsOf words s = (app : App) × IsProgram app × AreSettingsIn app words s

-- the command refuses the words, for a cause other than a request for a text
pub record IsRefused (app : App) (words : List Text) : Type 0 where
  pub refused : takes app words ≡ false
  pub kind : ErrorKind
  pub among : IsAmong kind (fault_of app words)
  pub no_help : kind ≢ DisplayHelp
  pub no_version : kind ≢ DisplayVersion

-- the command refuses the words, or its matches have no settings in range
abbrev pub IsUsageOf : App → List Text → Type 0
IsUsageOf app words = IsRefused app words ⊎ ((s : SettingsValue) → AreSettingsIn app words s → ¬ (IsInRange s.workers s.block))

-- the text is the one requested: the help text or the version
abbrev pub IsRequested : Kinds → List ℕ → Type 0
IsRequested kinds text = (IsAmong DisplayHelp kinds × (text ≡ HELP.now)) ⊎ (IsAmong DisplayVersion kinds × (text ≡ VERSION.now))

-- the reason why there are no settings: the words request a text; the command line is invalid; or an allocation failed
abbrev pub IsArgFaultOf : List Text → ArgFault → Type 0
IsArgFaultOf words (Help text) = (app : App) × IsProgram app × IsRequested (fault_of app words) (string_bytes text)
IsArgFaultOf words Usage = (app : App) × IsProgram app × IsUsageOf app words
IsArgFaultOf words Memory = Unit {0}
