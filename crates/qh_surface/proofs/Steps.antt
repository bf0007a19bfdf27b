-- The value that links, ends and a first orphan represent, and its change by each call.
use Rattle.qh_surface.proofs.Chains.{count_at, count-append, last_in, last_within, next, chain_is, chain_kept, chain_front, chain_joined, set_at, sets_kept}
use Rattle.qh_surface.{proofs.Chains.sets_put, specs.contract.OutsideSets.OutsideValue}
use Rattle.qh_surface.specs.{contract.OutsideSets.set_of, contract.OutsideSets.joined, contract.OutsideSets.listed, declared.outside_sets.Ends.Ends}
use Rattle.qh_surface.specs.steps.PositionChains.{none, count, chain_from, value_of, IsChain, IsLast, IsSet, IsKept, AreKept, AreSets, no_sets, one_more}
use Rattle.std.proofs.Common.{◌≡◌, ◌≢◌, ℕ, ◌+◌, ◌<◌, ◌≤◌, arith, ap}
use Rattle.std.proofs.Common.{sym, ◌∙◌, refl, false, subst, List, [], ◌∷◌, ◌++◌, length, length-append, drop, drop-cons, map, get_or, set, length-set, sum_by}
use Rattle.std.proofs.lemmas.List.{length-map, Sums.sum_by-cons, Sums.sum_by-set, Sums.get_or-le-sum_by}

-- ---- the value
-- the stored sets are those that are read
sets_is : {links : List ℕ} {es : List Ends} {xss : List (List ℕ)} (n : ℕ) → AreSets links es xss → sum_by length xss ≤ n
    → map (λ (e : Ends). chain_from links n e.first) es ≡ xss
sets_is n no_sets h = refl
sets_is {links} n (one_more {e} {xs = xs} {xss} s k) h =
    let a = sum_by-cons length xs xss in λ i. chain_is links n e.first xs s.0 (omega arith) i ∷ sets_is n k (omega arith) i

-- so the value of the fields is the stored value
pub value_is : {links : List ℕ} {es : List Ends} {o : ℕ} {os : List ℕ} {xss : List (List ℕ)} → IsKept links es o os xss
    → value_of links es o ≡ record { positions = length links; orphans = os; sets = xss }
unfolding value_of
value_is {links} {es} {o} {os} {xss} k =
    let t = k.total in let a = chain_is links (length links) o os k.chain (omega arith) in
    λ i. record { positions = length links; orphans = a i; sets = (sets_is (length links) k.sets_are (omega arith)) i }

-- ---- a chain by its first: either a position, or the chain is empty
some_from : (links : List ℕ) (p : ℕ) (xs : List ℕ) → IsChain links p xs → p < length links → xs ≡ p ∷ drop 1 xs
some_from links p [] c h = absurd (omega (arith, c))
some_from links p (x ∷ xs) c h = ap (λ t. t ∷ xs) (sym c.0)

none_from : (links : List ℕ) (p : ℕ) (xs : List ℕ) → IsChain links p xs → length links ≤ p → xs ≡ []
none_from links p [] c h = refl
none_from links p (x ∷ xs) c h = let a = c.0 in let b = c.1 in absurd (omega arith)

-- ---- a value by its fields
module _ {links : List ℕ} {es : List Ends} {o : ℕ} {now : OutsideValue} (k : AreKept links es o) (v : value_of links es o ≡ now) where
  pub positions_are : length links ≡ now.positions
  unfolding value_of
  positions_are = λ i. (v i).positions

  pub places_are : length now.sets ≡ length es
  unfolding value_of
  places_are = sym (λ i. length (v i).sets) ∙ length-map es (λ (e : Ends). chain_from links (length links) e.first)

  pub kept : IsKept links es o now.orphans now.sets
  kept = subst (λ (w : OutsideValue). IsKept links es o w.orphans w.sets) (sym (value_is k.2) ∙ v) k.2

  pub orphans_some : o < now.positions → now.orphans ≡ o ∷ drop 1 now.orphans
  orphans_some h = some_from links o now.orphans kept.chain (omega (arith, positions_are))

  pub orphans_none : now.positions ≤ o → now.orphans ≡ []
  orphans_none h = none_from links o now.orphans kept.chain (omega (arith, positions_are))

  pub no_orphans : now.orphans ≡ [] → now.positions ≤ o
  no_orphans e = let c = subst (IsChain links o) e kept.chain in omega (arith, positions_are)

  -- a value with an orphan
  pub kept_some : 0 < length now.orphans → IsKept links es o (get_or now.orphans 0 0 ∷ drop 1 now.orphans) now.sets
  kept_some h = subst (λ (t : List ℕ). IsKept links es o t now.sets) (drop-cons now.orphans 0 0 h) kept

  -- the ends of a set: its first and its last are positions
  module _ {f : ℕ} {e : Ends} (h : f < length now.sets) (r : e ≡ get_or es f e) where
    pub set_in : IsSet links e (set_of now f)
    set_in = set_at f e h r kept.sets_are

    pub set_some : e.first < now.positions → set_of now f ≡ e.first ∷ drop 1 (set_of now f)
    set_some m = some_from links e.first (set_of now f) set_in.0 (omega (arith, positions_are))

    pub set_none : now.positions ≤ e.first → set_of now f ≡ []
    set_none m = none_from links e.first (set_of now f) set_in.0 (omega (arith, positions_are))

    pub last_in_links : (p : ℕ) (xs : List ℕ) → set_of now f ≡ p ∷ xs → e.last < length links
    last_in_links p xs s = let c = subst (IsSet links e) s set_in in last_within links e.first p e.last xs c.0 c.1

  -- the value after a call
  module _ {links' : List ℕ} {es' : List Ends} {o' : ℕ} {os : List ℕ} (n : length links' ≡ length links) where
    pub value_after : {xss : List (List ℕ)} → IsKept links' es' o' os xss
        → value_of links' es' o' ≡ record { positions = now.positions; orphans = os; sets = xss }
    value_after {xss} k' = value_is k' ∙ (λ i. record { positions = (n ∙ positions_are) i; orphans = os; sets = xss })

    -- the value if f has another set
    pub answered : (f : ℕ) (xs : List ℕ) → IsKept links' es' o' os (set now.sets f xs) → f < length now.sets
        → length os + length xs ≡ length now.orphans + length (set_of now f)
        → record {
          orphans : (value_of links' es' o').orphans ≡ os;
          sets : (value_of links' es' o').sets ≡ set now.sets f xs;
          positions : (value_of links' es' o').positions ≡ now.positions;
          listed : listed (value_of links' es' o') ≡ listed now;
        }
    answered f xs k' h l =
        let e = value_after k' in let a = ap listed e in let s = sum_by-set length now.sets f xs [] h in
        record { orphans = λ i. (e i).orphans; sets = λ i. (e i).sets; positions = λ i. (e i).positions; listed = omega arith }

-- the facts about the fields
pub ruleset field_facts = (places_are, positions_are, orphans_some, orphans_none, no_orphans, set_some, set_none, last_in_links)

-- ---- lasts after a call
-- the last of a set without its first
last_rest : (x : ℕ) (xs : List ℕ) (l : ℕ) → IsLast (x ∷ xs) l → IsLast xs l
last_rest x [] l e = tt
last_rest x (y ∷ ys) l e = e

-- the last with one more position in front
front_last : (links : List ℕ) (e : Ends) (x l : ℕ) (xs : List ℕ) → IsSet links e xs → (length links ≤ e.first → l ≡ x)
    → (e.first < length links → l ≡ e.last) → IsLast (x ∷ xs) l
front_last links e x l [] c only last = grind (arith, c, only)
front_last links e x l (y ∷ ys) c only last = grind (arith, c, last)

-- the last with one more position behind the first
second_last : (e : Ends) (x y l : ℕ) (xs : List ℕ) → e.first ≡ y → IsLast (y ∷ xs) e.last → count e.first xs ≡ 0
    → (e.first ≡ e.last → l ≡ x) → (e.first ≢ e.last → l ≡ e.last) → IsLast (y ∷ x ∷ xs) l
second_last e x y l [] q c n alone last = alone (q ∙ sym c)
second_last e x y l (z ∷ xs) q c n alone last = grind (arith, q, c, n, last_in z xs e.last c, last)

-- ---- the calls
module _ {links : List ℕ} {es : List Ends} {o : ℕ} {os : List ℕ} {xss : List (List ℕ)} (k : IsKept links es o os xss)
    {f : ℕ} (h : f < length xss) where
  -- other orphans, and another set at f
  put : {links' : List ℕ} {o' : ℕ} {os' : List ℕ} (e : Ends) (xs : List ℕ) → length links' ≡ length links → IsChain links' o' os'
      → AreSets links' (set es f e) (set xss f xs) → ((y : ℕ) → count y os' + count y xs ≤ count y os + count y (get_or xss f []))
      → length os' + length xs ≤ length os + length (get_or xss f []) → IsKept links' (set es f e) o' os' (set xss f xs)
  put e xs n chain sets less shorter =
      let m = k.small in let t = k.total in let s = sum_by-set length xss f xs [] h in
      record {
        small = omega arith;
        chain = chain;
        sets_are = sets;
        total = omega arith;
        once = λ y. omega (arith, k.once y, less y, sum_by-set (count y) xss f xs [] h);
      }

  -- p is the first position of the set at f
  module _ (e : Ends) (q : e ≡ get_or es f e) (p : ℕ) (xs : List ℕ) (s : get_or xss f [] ≡ p ∷ xs) where
    first_set : IsSet links e (p ∷ xs)
    first_set = subst (IsSet links e) s (set_at f e h q k.sets_are)

    -- p is removed
    pub taken : (p' : ℕ) → p' ≡ get_or links p p' → IsKept links (set es f (record { first = p'; last = e.last })) o os (set xss f xs)
    taken p' r =
        let c = first_set in let a = count_at p p xs refl in let b = k.once p in let t = ap (count p) s in
        put _ xs refl k.chain (sets_put p (λ _ _ _ c. c) f _ xs h (omega arith)
        (next links p p' p xs (refl, c.0.1, c.0.2) r, last_rest p xs e.last c.1) k.sets_are) (λ y. omega (arith, ap (count y) s)) (omega (arith, ap length s))

    -- all positions of the set become orphans
    pub released : (l : ℕ)
        → IsKept (set links e.last o) (set es f (record { first = none; last = l })) p (get_or xss f [] ++ os) (set xss f [])
    released l =
        let c = first_set in let a = last_in p xs e.last c.1 in let b = k.once e.last in let t = ap (count e.last) s in
        let g = get_or-le-sum_by (count e.last) xss f [] h in
        put _ [] (length-set links e.last o) (rw s (chain_joined links e.last o p p xs os (omega arith) c.1 (refl, c.0.1, c.0.2)
        (chain_kept links e.last o o os (omega arith) k.chain)))
        (sets_put e.last (chain_kept links e.last o) f _ [] h (omega arith) (rw (length-set links e.last o) k.small, tt) k.sets_are)
        (λ y. omega (arith, count-append y (get_or xss f []) os)) (omega (arith, length-append (get_or xss f []) os))

-- the first orphan x is removed
module _ {links : List ℕ} {es : List Ends} {o x : ℕ} {os : List ℕ} {xss : List (List ℕ)} (k : IsKept links es o (x ∷ os) xss)
    {o' : ℕ} (r : o' ≡ get_or links o o') where
  rest : IsChain links o' os
  rest = next links o o' x os k.chain r

  pub dropped : IsKept links es o' os xss
  dropped =
      let t = k.total in
      record { small = k.small; chain = rest; sets_are = k.sets_are; once = λ y. omega (arith, k.once y); total = omega arith }

  -- x joins the set at f
  module _ {f : ℕ} (h : f < length xss) {e : Ends} (q : e ≡ get_or es f e) (e' : Ends) where
    -- x joins it in front
    pub put_front : e'.first ≡ o → (length links ≤ e.first → e'.last ≡ o) → (e.first < length links → e'.last ≡ e.last)
        → IsKept (set links o e.first) (set es f e') o' os (set xss f (x ∷ get_or xss f []))
    put_front first only last =
        let c = set_at f e h q k.sets_are in let i = k.chain.0 in let l = k.chain.1 in
        let a = count_at o x os i in let b = k.once o in let g = get_or-le-sum_by (count o) xss f [] h in
        let w = chain_kept links o e.first in
        let n = chain_front links o e.first e'.first x (get_or xss f []) i (first ∙ i) (omega arith) (omega arith) c.0 in
        let t = front_last links e x e'.last (get_or xss f []) c (λ n. only n ∙ i) last in
        put k h e' _ (length-set links o e.first) (w o' os (omega arith) rest) (sets_put o w f e' _ h (omega arith) (n, t) k.sets_are)
        (λ y. omega arith) (omega arith)

    -- x joins it behind the first
    pub put_second : 0 < length (get_or xss f []) → (p : ℕ) → p ≡ get_or links e.first p → e'.first ≡ e.first
        → (e.first ≡ e.last → e'.last ≡ o) → (e.first ≢ e.last → e'.last ≡ e.last)
        → IsKept (set (set links o p) e.first o) (set es f e') o' os (set xss f (joined false x (get_or xss f [])))
    put_second m p w first alone last =
        let y = get_or (get_or xss f []) 0 0 in let ys = drop 1 (get_or xss f []) in
        let s = drop-cons (get_or xss f []) 0 0 m in let c = first_set k h e q y ys s in
        let i = k.chain.0 in let l = k.chain.1 in let a = count_at o x os i in let b = k.once o in
        let g = get_or-le-sum_by (count o) xss f [] h in let t = ap (count o) s in
        let a2 = count_at e.first y ys c.0.0 in let b2 = k.once e.first in
        let g2 = get_or-le-sum_by (count e.first) xss f [] h in let t2 = ap (count e.first) s in
        let links1 = set links o p in let w1 = chain_kept links o p in let w2 = chain_kept links1 e.first o in
        let n1 = chain_front links o p o x ys i i (omega arith) (omega arith) (next links e.first p y ys c.0 w) in
        let n2 = chain_front links1 e.first o e'.first y (x ∷ ys) c.0.0 (first ∙ c.0.0)
        (rw (length-set links o p) (omega (arith, c.0.0, c.0.1))) (omega arith) n1 in
        let u = second_last e x y e'.last ys c.0.0 c.1 (omega arith) (λ d. alone d ∙ i) last in
        rw s (put k h e' _ (length-set links1 e.first o ∙ length-set links o p) (w2 o' os (omega arith) (w1 o' os (omega arith) rest))
        (sets_put e.first w2 f e' (y ∷ x ∷ ys) h (omega arith) (n2, u) (sets_kept o w1 (omega arith) k.sets_are))
        (λ z. omega (arith, ap (count z) s)) (omega (arith, ap length s)))
