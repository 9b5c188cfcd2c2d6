-- The laws of the machine's runs, which hold of all tables.
use Rattle.std.specs.Prelude.{◌≡◌, ℕ, ◌+◌, ◌⊎◌, List, ◌∷◌, ◌++◌, length}
use Rattle.grammar_data.specs.declared.token.Token.{Token as TextToken}
use Rattle.table_data.specs.declared.act.Act.TheVariants.{Accept, Error}
use Rattle.table_data.specs.Tables.{Tables, act_in}
use Rattle.machine_theory.specs.Machine.{Entry, top, tokens_of, IsStack, Reduces, Reaches, Errs}

-- moves leave the stack below their base as it is, and are the same over each stack that has this state on top
abbrev pub FrameLaw : Type 0
FrameLaw = (t : Tables) (low base : ℕ) (under s last : List Entry) (u v : List TextToken) → top low under ≡ base → Reaches t base s u last v → Reaches t low (s ++ under) u (last ++ under) v

-- and so are errors
abbrev pub ErrorFrameLaw : Type 0
ErrorFrameLaw = (t : Tables) (low base : ℕ) (under s : List Entry) (u : List TextToken) (index : ℕ) (token : TextToken) (state : ℕ) → top low under ≡ base → Errs t base s u index token state → Errs t low (s ++ under) u index token state

-- a stack on the lower part of another is a valid stack, where both are and the lower one has the base on top
abbrev pub StackFrameLaw : Type 0
StackFrameLaw = (t : Tables) (low base : ℕ) (under s : List Entry) → top low under ≡ base → IsStack t low under → IsStack t base s → IsStack t low (s ++ under)

-- runs one after another are one run
abbrev pub ThenLaw : Type 0
ThenLaw = (t : Tables) (base : ℕ) (s mid last : List Entry) (u v w : List TextToken) → Reaches t base s u mid v → Reaches t base mid v last w → Reaches t base s u last w

-- an error after a run over `u` is an error of the run over `u` and what follows, its index greater by the length of `u`
abbrev pub ErrorThenLaw : Type 0
ErrorThenLaw = (t : Tables) (base : ℕ) (s mid : List Entry) (u v : List TextToken) (index : ℕ) (token : TextToken) (state : ℕ) → Reaches t base s (u ++ v) mid v → Errs t base mid v index token state → Errs t base s (u ++ v) (length u + index) token state

-- more input behind changes no run
abbrev pub MoreInputLaw : Type 0
MoreInputLaw = (t : Tables) (base : ℕ) (s last : List Entry) (u v more : List TextToken) → Reaches t base s u last v → Reaches t base s (u ++ more) last (v ++ more)

-- and no error
abbrev pub ErrorMoreInputLaw : Type 0
ErrorMoreInputLaw = (t : Tables) (base : ℕ) (s : List Entry) (u more : List TextToken) (index : ℕ) (token : TextToken) (state : ℕ) → Errs t base s u index token state → Errs t base s (u ++ more) index token state

-- a stack is reduced in one way at most
abbrev pub OneReductionLaw : Type 0
OneReductionLaw = (t : Tables) (base a : ℕ) (s next other : List Entry) → Reduces t base a s next → Reduces t base a s other → next ≡ other

-- of two runs from one place one goes on from where the other is
abbrev pub OneRunLaw : Type 0
OneRunLaw = (t : Tables) (base : ℕ) (s first second : List Entry) (u v w : List TextToken) → Reaches t base s u first v → Reaches t base s u second w → Reaches t base first v second w ⊎ Reaches t base second w first v

-- no move follows an error or an acceptance
abbrev pub StopLaw : Type 0
StopLaw = (t : Tables) (base : ℕ) (s last : List Entry) (token : TextToken) (u v : List TextToken) → ((act_in t (top base s) token.id ≡ Error) ⊎ (act_in t (top base s) token.id ≡ Accept)) → Reaches t base s (token ∷ u) last v → (last ≡ s) × (v ≡ token ∷ u)

-- a run errs once at most
abbrev pub OneErrorLaw : Type 0
OneErrorLaw = (t : Tables) (base : ℕ) (s : List Entry) (u : List TextToken) (index place : ℕ) (token other : TextToken) (state q : ℕ) → Errs t base s u index token state → Errs t base s u place other q → (index ≡ place) × (token ≡ other) × (state ≡ q)

-- a run looks no further than the first token that it leaves
abbrev pub LookaheadLaw : Type 0
LookaheadLaw = (t : Tables) (base : ℕ) (s last : List Entry) (front later other : List TextToken) (token : TextToken) → Reaches t base s (front ++ token ∷ later) last (token ∷ later) → Reaches t base s (front ++ token ∷ other) last (token ∷ other)

-- the tokens of the stack and the input stay
abbrev pub TokensStayLaw : Type 0
TokensStayLaw = (t : Tables) (base : ℕ) (s last : List Entry) (u v : List TextToken) → Reaches t base s u last v → tokens_of s ++ u ≡ tokens_of last ++ v
