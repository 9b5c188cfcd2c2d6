-- What the crate `clap` says of a command's arguments.
use Rattle.std.proofs.Common.{◌≡◌, ◌≢◌, ℕ, true, List, [], Option, Result, ⊎_elim, refl, ap, subst, ◌∙◌}
use Rattle.clap.specs.Words.{App, Kinds, IsAmong, FailsBy, HasKind, HasMatchesOf, fault_of, first_of, first_value, found_of, is_simple, is_simple_and_free, kind_of, matches_of, rows_of}
use Rattle.clap.specs.declared.Error.{Error}
use Rattle.clap.specs.declared.error.ErrorKind.TheVariants.{OutOfMemory}
use Rattle.clap.specs.declared.ArgMatches.{ArgMatches}
use Rattle.clap.proofs.WalkLemmas.{first_value-rows}
use Rattle.word_theory.specs.declared.command_name.CommandName.{CommandName}
use Rattle.word_theory.specs.declared.command_name.CommandName.TheVariants.{Tokens, Check, Tables, Run, Gen, Load}
use Rattle.word_theory.specs.Arguments.{app_of, at_id, cut_id, emit_id, faults_in, from_id, IsTaken, sheet_id, size_id, text_id, told_in, workers_id}

-- the matches and the faults of each command are functions of the words
simple_and_free : (name : CommandName) → is_simple_and_free (app_of name) ≡ true
simple_and_free Tokens = refl
simple_and_free Check = refl
simple_and_free Tables = refl
simple_and_free Run = refl
simple_and_free Gen = refl
simple_and_free Load = refl

simple : (name : CommandName) → is_simple (app_of name) ≡ true
simple Tokens = refl
simple Check = refl
simple Tables = refl
simple Run = refl
simple Gen = refl
simple Load = refl

-- a parse fails by the faults of the words
pub fails_by : (name : CommandName) (words : List (List ℕ)) (app : App) (result : Result ArgMatches Error) → app ≡ app_of name → (is_simple_and_free app ≡ true → FailsBy (fault_of app words) result) → FailsBy (faults_in name words) result
unfolding faults_in
fails_by name words app result e fails = subst (λ (a : App). FailsBy (fault_of a words) result) e (fails (ap is_simple_and_free e ∙ simple_and_free name))

-- and not only for want of memory, where the words are not taken
pub not_taken : (name : CommandName) (words : List (List ℕ)) (error : Error) → HasKind (faults_in name words) error → kind_of error ≢ OutOfMemory → ¬ (IsTaken name words)
not_taken name words error has other taken =
    ⊎_elim other (λ among. none (faults_in name words) taken among) has
  where
    none : (kinds : Kinds) → kinds ≡ [] → IsAmong (kind_of error) kinds → ⊥
    none kinds e among = subst (IsAmong (kind_of error)) e among

-- the rows of a parse are those of the words
pub rows_by : (name : CommandName) (words : List (List ℕ)) (app : App) (matches : ArgMatches) → app ≡ app_of name → HasMatchesOf app words matches → rows_of (found_of matches) ≡ matches_of (app_of name) words
rows_by name words app matches e has = (has (ap is_simple e ∙ simple name)).0 ∙ ap (λ (a : App). matches_of a words) e

-- so the values that are read of a parse are those that the words tell
module _ (name : CommandName) (words : List (List ℕ)) (matches : ArgMatches) (rows : rows_of (found_of matches) ≡ matches_of (app_of name) words) where
  value_is : (id : List ℕ) (value : Option (List ℕ)) → value ≡ first_value (found_of matches) id → value ≡ first_of id (matches_of (app_of name) words)
  value_is id value e = e ∙ first_value-rows (found_of matches) id ∙ ap (first_of id) rows

  pub told_by : (sheet text emit workers cut at from size : Option (List ℕ)) → sheet ≡ first_value (found_of matches) sheet_id → text ≡ first_value (found_of matches) text_id → emit ≡ first_value (found_of matches) emit_id → workers ≡ first_value (found_of matches) workers_id → cut ≡ first_value (found_of matches) cut_id → at ≡ first_value (found_of matches) at_id → from ≡ first_value (found_of matches) from_id → size ≡ first_value (found_of matches) size_id
      → record { sheet = sheet; text = text; emit = emit; workers = workers; cut = cut; at = at; from = from; size = size } ≡ told_in name words
  unfolding told_in
  told_by sheet text emit workers cut at from size p q r w u v s t =
      λ i. record { sheet = value_is sheet_id sheet p i; text = value_is text_id text q i; emit = value_is emit_id emit r i; workers = value_is workers_id workers w i; cut = value_is cut_id cut u i; at = value_is at_id at v i; from = value_is from_id from s i; size = value_is size_id size t i }
