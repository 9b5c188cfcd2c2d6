-- Walks over kids in two parts and elsewhere, and lists of kids that aren't hidden.
use Rattle.std.proofs.Common.{◌≡◌, ◌≢◌, ℕ, suc, ◌+◌, List, [], ◌∷◌, ◌++◌, length, All, Contains, refl, sym, ap, ◌∙◌, subst, append_assoc, arith}
use Rattle.std.proofs.lemmas.List.Elements.{All-head, All-tail, All-cons, All-nil}
use Rattle.node_data.specs.declared.kid.Kid.{Kid}
use Rattle.node_data.specs.declared.kid.Kid.TheVariants.{Hidden}
use Rattle.tree_theory.specs.Stores.{Ref, Store}
use Rattle.tree_theory.specs.Walks.{Step, Walks, walks_token, walks_hidden, walks_node, WalksAll, walks_none, walks_more}

abbrev pub AreShown : List Kid → Type 0
AreShown kids = All {X = Kid} (λ kid. kid ≢ Hidden) kids

pub shown_front : (keep taken : List Kid) → AreShown (keep ++ taken) → AreShown keep
shown_front [] taken all = All-nil {X = Kid} (λ kid. kid ≢ Hidden)
shown_front (k ∷ keep) taken all = All-cons {X = Kid} (λ kid. kid ≢ Hidden) k keep (All-head {X = Kid} (λ kid. kid ≢ Hidden) k (keep ++ taken) all) (shown_front keep taken (All-tail {X = Kid} (λ kid. kid ≢ Hidden) k (keep ++ taken) all))

pub shown_back : (keep taken : List Kid) → AreShown (keep ++ taken) → AreShown taken
shown_back [] taken all = all
shown_back (k ∷ keep) taken all = shown_back keep taken (All-tail {X = Kid} (λ kid. kid ≢ Hidden) k (keep ++ taken) all)

pub none_hidden : (kids : List Kid) → AreShown kids → Contains {X = Kid} kids Hidden → ⊥
none_hidden kids all (k, inside, at) = all k Hidden inside at

-- ---- parts

pub record IsParted (store : Store) (n : Ref) (i j : ℕ) (keep taken : List Kid) (steps : List Step) : Type 0 where
  pub first : List Step
  pub inner : List Step
  pub parts : steps ≡ first ++ inner
  pub low : WalksAll store n i keep first
  pub up : WalksAll store n j taken inner

parted : {store : Store} {n : Ref} (j : ℕ) (keep taken : List Kid) {i : ℕ} {steps : List Step} → j ≡ i + length keep → WalksAll store n i (keep ++ taken) steps → IsParted store n i j keep taken steps
parted {store} {n} j [] taken {i} {steps} e walks = let same : i ≡ j = omega (arith, e) in record { first = []; inner = steps; parts = refl; low = walks_none; up = subst (λ (k : ℕ). WalksAll store n k taken steps) same walks }
parted j (k ∷ keep) taken e (walks_more {first = one} one_walks all to) =
    let rest = parted j keep taken (omega (arith, e)) all in
    record {
      first = one ++ rest.first;
      inner = rest.inner;
      parts = to ∙ ap (λ l. one ++ l) rest.parts ∙ sym (append_assoc one rest.first rest.inner);
      low = walks_more one_walks rest.low refl;
      up = rest.up;
    }

pub walks_parted : {store : Store} {n : Ref} (keep taken : List Kid) {i : ℕ} {steps : List Step} → WalksAll store n i (keep ++ taken) steps → IsParted store n i (i + length keep) keep taken steps
walks_parted keep taken {i} walks = parted (i + length keep) keep taken refl walks

-- ---- elsewhere

walk_elsewhere : {store : Store} {n : Ref} {i : ℕ} {kid : Kid} {steps : List Step} → kid ≢ Hidden → Walks store n i kid steps → (m : Ref) (j : ℕ) → Walks store m j kid steps
walk_elsewhere not walks_token m j = walks_token
walk_elsewhere not walks_hidden m j = absurd (not refl)
walk_elsewhere not (walks_node kids at all to) m j = walks_node kids at all to

-- only a hidden kid looks at its place
pub walks_elsewhere : {store : Store} {n : Ref} {i : ℕ} {kids : List Kid} {steps : List Step} → AreShown kids → WalksAll store n i kids steps → (m : Ref) (j : ℕ) → WalksAll store m j kids steps
walks_elsewhere all walks_none m j = walks_none
walks_elsewhere all (walks_more {kid = kid} {kids = kids} first rest to) m j =
    walks_more (walk_elsewhere (All-head {X = Kid} (λ k. k ≢ Hidden) kid kids all) first m j) (walks_elsewhere (All-tail {X = Kid} (λ k. k ≢ Hidden) kid kids all) rest m (suc j)) to
