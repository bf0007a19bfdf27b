-- The reasons why a command line has no settings.
use Rattle.std.proofs.Common.{◌≡◌, ◌∙◌, ◌<◌, ap, sym, subst, refl, arith, ℕ, zero, suc, Bool, true, false, inl, inr, List, [], ◌∷◌, length, map, Option, codes}
use Rattle.std.specs.{Prelude.slice_index_or, Prelude.string_bytes, Borrow.Bor, Option.option_map}
use Rattle.clap.specs.Words.{App, Text, IsAmong, HasKind, all_of, fault_of, kind_of, matched_of, matches_of, one_of, raw_values, rows_of, takes}
use Rattle.clap.specs.declared.error.{Error.Error, kind.ErrorKind.ErrorKind}
use Rattle.clap.specs.declared.error.kind.ErrorKind.TheVariants.{DisplayHelp, DisplayVersion, OutOfMemory}
use Rattle.clap.specs.declared.parser.matches.Found.{Found}
use Rattle.clap.proofs.WalkLemmas.{one_text-rows, raw_values-rows}
use Rattle.qh_model.specs.declared.out.Out.{Out}
use Rattle.qh_command.specs.contract.CommandLine.{AreOutsOf, AreSettingsIn, IsArgFaultOf, IsFormOf, IsProgram, IsRequested, NumberOf, word_of}
use Rattle.qh_command.specs.declared.command_line.ArgFault.{ArgFault, TheVariants.Help, TheVariants.Usage, TheVariants.Memory}
use Rattle.qh_command.specs.steps.Matches.{AreSettingsFound, IsFindingFault, IsOutsFault, IsRefusalOf}
use Rattle.qh_command.specs.headline.SettingsValue.{SettingsValue}

-- each of the words of outputs is the word of an output
pub word_at : (outs : List Out) (names : List (Bor Text)) (k : ℕ) (d : Bor Text)
    → map word_of outs ≡ map (λ w. w.now) names → k < length names
    → (out : Out) × (word_of out ≡ (slice_index_or names k d).now)
word_at [] [] k d e h = absurd (omega arith)
word_at [] (n ∷ ns) k d e h = cc
word_at (o ∷ os) [] k d e h = cc
word_at (o ∷ os) (n ∷ ns) zero d e h = (o, cc)
word_at (o ∷ os) (n ∷ ns) (suc k) d e h = let rest : map word_of os ≡ map (λ w. w.now) ns = cc in word_at os ns k d rest (omega arith)

-- the words of a list with one word
pub only_word : (names : List (Bor Text)) (d : Bor Text) → length names ≡ 1 → map (λ w. w.now) names ≡ (slice_index_or names 0 d).now ∷ []
only_word [] d h = absurd (omega arith)
only_word (n ∷ []) d h = refl
only_word (n ∷ m ∷ ns) d h = absurd (omega arith)

-- the values in the matches of the words are those that the words specify
pub found_in : (app : App) (words : List Text) (found : Found) → rows_of found ≡ matches_of app words
    → (s : SettingsValue) → AreSettingsFound found s → AreSettingsIn app words s
found_in app words found rows s h = record {
  workers = subst (λ (t : Option Text). NumberOf t s.workers) (one_text-rows found (codes "workers") ∙ ap (one_of (codes "workers")) rows) h.workers;
  block = subst (λ (t : Option Text). NumberOf t s.block) (one_text-rows found (codes "block") ∙ ap (one_of (codes "block")) rows) h.block;
  outs = subst (λ (t : Option (List Text)). AreOutsOf t s.outs) (raw_values-rows found (codes "outs") ∙ ap (all_of (codes "outs")) rows) h.outs;
  form = subst (λ (t : Option (List Text)). IsFormOf t s.form) (raw_values-rows found (codes "from") ∙ ap (all_of (codes "from")) rows) h.form;
}

-- and conversely
said_found : (app : App) (words : List Text) (found : Found) → rows_of found ≡ matches_of app words
    → (s : SettingsValue) → AreSettingsIn app words s → AreSettingsFound found s
said_found app words found rows s h = record {
  workers = subst (λ (t : Option Text). NumberOf t s.workers) (sym (one_text-rows found (codes "workers") ∙ ap (one_of (codes "workers")) rows)) h.workers;
  block = subst (λ (t : Option Text). NumberOf t s.block) (sym (one_text-rows found (codes "block") ∙ ap (one_of (codes "block")) rows)) h.block;
  outs = subst (λ (t : Option (List Text)). AreOutsOf t s.outs) (sym (raw_values-rows found (codes "outs") ∙ ap (all_of (codes "outs")) rows)) h.outs;
  form = subst (λ (t : Option (List Text)). IsFormOf t s.form) (sym (raw_values-rows found (codes "from") ∙ ap (all_of (codes "from")) rows)) h.form;
}

-- a fault of the matches is a fault of the words
pub unfound : (app : App) (words : List Text) (found : Found) → IsProgram app → rows_of found ≡ matches_of app words
    → (f : ArgFault) → IsFindingFault found f → IsArgFaultOf words f
unfound app words found is rows (Help text) h = absurd h
unfound app words found is rows Usage h = (app, is, inr (λ s g. h s (said_found app words found rows s g)))
unfound app words found is rows Memory h = tt

-- a fault of the outputs is a fault of the matches
pub no_outs : (found : Found) (f : ArgFault) → IsOutsFault (option_map raw_values (matched_of found (codes "outs"))) f → IsFindingFault found f
no_outs found (Help text) h = absurd h
no_outs found Usage h = λ s g r. h s.outs g.outs
no_outs found Memory h = tt

-- an error of clap: the words request a text; else clap refuses them, or an allocation failed
pub refusal : (app : App) (words : List Text) (e : Error) → IsProgram app → HasKind (fault_of app words) e → (takes app words ≡ true → kind_of e ≡ OutOfMemory)
    → (f : ArgFault) → IsRefusalOf (kind_of e) f → IsArgFaultOf words f
refusal app words e is kinds passes (Help text) h = (app, is, requested h)
  where
    among : (k : ErrorKind) → kind_of e ≡ k → ¬ (k ≡ OutOfMemory) → HasKind (fault_of app words) e → IsAmong k (fault_of app words)
    among k same other (inl m) = absurd (other (sym same ∙ m))
    among k same other (inr a) = subst (λ (j : ErrorKind). IsAmong j (fault_of app words)) same a

    requested : IsRefusalOf (kind_of e) (Help text) → IsRequested (fault_of app words) (string_bytes text)
    requested (inl (same, t)) = inl (among DisplayHelp same (λ bad. cc) kinds, t)
    requested (inr (same, t)) = inr (among DisplayVersion same (λ bad. cc) kinds, t)
refusal app words e is kinds passes Usage h = (
  app,
  is,
  inl (record
      { refused = by_test (takes app words) refl; kind = kind_of e; among = told kinds; no_help = h.1; no_version = h.2 }),
)
  where
    by_test : (b : Bool) → takes app words ≡ b → takes app words ≡ false
    by_test true t = absurd (h.0 (passes t))
    by_test false t = t

    told : HasKind (fault_of app words) e → IsAmong (kind_of e) (fault_of app words)
    told (inl m) = absurd (h.0 m)
    told (inr a) = a
refusal app words e is kinds passes Memory h = tt
