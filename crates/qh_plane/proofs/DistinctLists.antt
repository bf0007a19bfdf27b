-- The distinct ids by marks, and the repeats among sorted keys of points, for any numbers that determine the places.
use Rattle.qh_model.proofs.Common.{◌≡◌, ℕ, ◌+◌, ◌-◌, ◌*◌, ◌%◌, ◌/◌, ◌<◌, ◌≤◌, List, length, get_or, map}
use Rattle.qh_model.proofs.Common.{arith, ap, sym, subst, ◌∙◌, ◌↔◌, ◌⊎◌, inl, inr, ⊎_elim, true, false, Bool, cases_lt, nat_tests, div-add-mod', mod-mul-add}
use Rattle.qh_model.proofs.Common.{All, IsStrictlyIncreasing, IsNonDecreasing, IsPermutation, IsIdSet, IsDistinctId, AreDistinctIds, place, In, Vector}
use Rattle.qh_model.proofs.Members.{In-get_or, All-of, in_at}
use Rattle.qh_plane.specs.steps.{PlaceKeys.AllIds, PlaceKeys.ArePlaceRepeats, Repeats.IsRepeatedId, Repeats.AreAllRepeats, SortedPoints.AllDiffer}
use Rattle.qh_polygon.proofs.KeyOrder.{IsKeyIn, TellIds, code_le, key_told, key_listed, keys_rise}
use Rattle.qh_polygon.proofs.MarkedIds.{IsMarked, in_marked_ids, of_marked_ids, marked_ids-rise}
use Rattle.{qh_polygon.specs.contract.Marks.marked_ids, std.proofs.lemmas.Nat.div-mul-add}

-- the ids below a count rise
pub rises_each : (n : ℕ) (all : List ℕ) → AllIds n all → IsStrictlyIncreasing all
rises_each n all a k h = let e = a.len in rw (a.each k (omega arith), a.each (k + 1) (omega arith)) (omega arith)

-- each number below the count is listed
pub all_in : (n : ℕ) (all : List ℕ) → AllIds n all → (i : ℕ) → i < n → In i all
all_in n all a i h = subst (λ v. In v all) (a.each i h) (In-get_or all i 0 (let e = a.len in omega arith))

-- no other number is listed
pub in_all : (n : ℕ) (all : List ℕ) → AllIds n all → (i : ℕ) → In i all → i < n
in_all n all a i m =
    let r = in_at all i m in let lt : r.0 < n = subst (λ v. r.0 < v) a.len r.1 in
    subst (λ v. v < n) (sym (a.each r.0 lt) ∙ r.2) lt

-- if all points differ, all ids are distinct
pub all_distinct : (pts : List Vector) (all : List ℕ) → AllIds (length pts) all → AllDiffer pts → AreDistinctIds pts all
all_distinct pts all a differ = record {
  rising = rises_each (length pts) all a;
  members = λ i. ((λ m. let lt = in_all (length pts) all a i m in (lt, λ j l. differ j i l lt)), (λ d. all_in (length pts) all a i d.0));
}

-- if the marks are those of the distinct ids, these are listed
pub marked_distinct : (pts : List Vector) (marks : List Bool) → ((i : ℕ) → get_or marks i false ≡ true ↔ IsDistinctId pts i)
    → AreDistinctIds pts (marked_ids 0 marks)
marked_distinct pts marks is = record {
  rising = marked_ids-rise marks;
  members = λ i. (λ m. only i (of_marked_ids 0 i marks m), λ f. subst (λ v. In v (marked_ids 0 marks)) (omega arith) (in_marked_ids 0 i marks ((is i).1 f)));
}
  where
    only : (i : ℕ) → IsMarked 0 i marks → IsDistinctId pts i
    only i p = (is i).0 (subst (λ v. get_or marks v false ≡ true) (sym (p.at ∙ omega arith)) p.is)

-- the key of each id is the number of its place, above the room of the id
abbrev pub key_by : ℕ → (ℕ → ℕ) → ℕ → ℕ
key_by room code i = code i * room + i

-- the sorted keys of some ids of the points: equal points have equal numbers
pub record AreSortedKeys (pts : List Vector) (room : ℕ) (code : ℕ → ℕ) (keys : List ℕ) : Type 0 where
  pub ids : List ℕ
  pub up : IsStrictlyIncreasing ids
  pub inside : (i : ℕ) → In i ids → i < length pts
  pub same : IsPermutation (map (key_by room code) ids) keys
  pub rising : IsNonDecreasing keys
  pub small : (i : ℕ) → i < length pts → i < room
  pub equal : (i j : ℕ) → place pts i ≡ place pts j → code i ≡ code j

-- of two keys of one place, the lower one has the lower id
id_up : (room x y : ℕ) → x / room ≡ y / room → x ≤ y → x % room ≤ y % room
id_up room x y e h = omega (arith, div-add-mod' x room, div-add-mod' y room, ap (λ v. v * room) e, h)

id_less : (room x y : ℕ) → x / room ≡ y / room → x < y → x % room < y % room
id_less room x y e h = omega (arith, div-add-mod' x room, div-add-mod' y room, ap (λ v. v * room) e, h)

-- the key of id i is at n, and determines the id and its place
pub record StandsAt (room : ℕ) (code : ℕ → ℕ) (keys : List ℕ) (i n : ℕ) : Type 0 where
  pub within : n < length keys
  pub place_told : get_or keys n 0 / room ≡ code i
  pub id_told : get_or keys n 0 % room ≡ i

module _ (pts : List Vector) (room : ℕ) (code : ℕ → ℕ) (keys : List ℕ) (k : AreSortedKeys pts room code keys) where
  -- a key determines its id
  tell : TellIds room (key_by room code) k.ids
  tell i m = mod-mul-add (code i) room i (k.small i (k.inside i m))

  -- each key is the key of its id
  told : (x : ℕ) → In x keys → IsKeyIn room (key_by room code) k.ids x
  told = key_told room (key_by room code) k.ids keys k.same tell

  -- this id is an index
  pub index_in : (x : ℕ) → In x keys → x % room < length pts
  index_in x m = k.inside (x % room) (told x m).has

  -- the keys rise strictly
  pub up : IsStrictlyIncreasing keys
  up = keys_rise room (key_by room code) k.ids keys k.same tell k.up k.rising

  -- each of the ids has a key
  listed : (i : ℕ) → In i k.ids → In (key_by room code i) keys
  listed = key_listed room (key_by room code) k.ids keys k.same tell

  -- the key determines the number of the place
  code_in_key : (i : ℕ) → i < length pts → key_by room code i / room ≡ code i
  code_in_key i h = div-mul-add (code i) room i (k.small i h)

  -- and the id
  id_in_key : (i : ℕ) → i < length pts → key_by room code i % room ≡ i
  id_in_key i h = mod-mul-add (code i) room i (k.small i h)

  -- the place in a key is that of its id
  code_told : (x : ℕ) → In x keys → x / room ≡ code (x % room)
  code_told x m = ap (λ v. v / room) (told x m).is ∙ code_in_key (x % room) (index_in x m)

  -- the ids in the keys are indices
  pub all_within : All (λ x. x % room < length pts) keys
  all_within = All-of (λ x. x % room < length pts) keys index_in

  -- the key of each of the ids has a position
  pub position : (i : ℕ) → In i k.ids → (n : ℕ) × StandsAt room code keys i n
  position i m =
      let h = k.inside i m in let r = in_at keys (key_by room code i) (listed i m) in (
        r.0,
        record { within = r.1; place_told = ap (λ v. v / room) r.2 ∙ code_in_key i h; id_told = ap (λ v. v % room) r.2 ∙ id_in_key i h },
      )

  -- of two ids with one number, the key of the lower one comes first
  pub stands_before : (i j p q : ℕ) → i < j → code i ≡ code j → StandsAt room code keys i p → StandsAt room code keys j q → p < q
  stands_before i j p q l e s t =
      let back : get_or keys q 0 % room ≤ get_or keys p 0 % room → ⊥ = λ h. omega (arith, l, h, s.id_told, t.id_told) in
      ⊎_elim (λ h. h) (λ h. absurd (back (id_up room (get_or keys q 0) (get_or keys p 0)
      (t.place_told ∙ sym e ∙ sym s.place_told) (k.rising q p 0 h s.within)))) (cases_lt p q)

  -- ---- the repeats, if the keys are those of all ids
  module _ (every : (i : ℕ) → i < length pts → In i k.ids) (apart : (i j : ℕ) → i < j → j < length pts → code i ≡ code j → place pts i ≡ place pts j)
      (ids : List ℕ) (told : ArePlaceRepeats room keys (length keys) ids) where
    -- the key of an id with a lower one of its place has the place of the key before
    repeats : (i : ℕ) → IsRepeatedId pts i → In i ids
    repeats i r = subst (λ v. In v ids) q.1.id_told (from_last (q.0 - 1) (omega (arith, before)))
      where
        codes : code r.1 ≡ code i
        codes = k.equal r.1 i r.3

        p : (n : ℕ) × StandsAt room code keys r.1 n
        p = position r.1 (every r.1 (omega (arith, r.2, r.0)))

        q : (n : ℕ) × StandsAt room code keys i n
        q = position i (every i r.0)

        before : p.0 < q.0
        before = stands_before r.1 i p.0 q.0 r.2 codes p.1 q.1

        squeeze : (a b c : ℕ) → a ≤ b → b ≤ c → a ≡ c → b ≡ c
        squeeze a b c g h e = omega (arith, g, h, e)

        from_last : (n : ℕ) → n + 1 ≡ q.0 → In (get_or keys q.0 0 % room) ids
        from_last n e = rw e at (told.has n within within (rw e (squeeze _ _ _
            (code_le room _ _ (k.rising p.0 n 0 (omega (arith, before, e)) (omega (arith, within))))
            (code_le room _ _ (k.rising n q.0 0 (omega (arith, e)) q.1.within)) (p.1.place_told ∙ codes ∙ sym q.1.place_told))))
          where
            within : n + 1 < length keys
            within = subst (λ m. m < length keys) (sym e) q.1.within

    -- a key that has the place of the key before belongs to a repeated id
    repeated : (i : ℕ) → In i ids → IsRepeatedId pts i
    repeated i m =
        let here : In (get_or keys r.0 0) keys = In-get_or keys r.0 0 (omega (arith, r.1)) in
        let next : In (get_or keys (r.0 + 1) 0) keys = In-get_or keys (r.0 + 1) 0 r.1 in
        let low : ℕ = get_or keys r.0 0 % room in let high : ℕ = get_or keys (r.0 + 1) 0 % room in
        let inside : high < length pts = index_in (get_or keys (r.0 + 1) 0) next in
        let codes : code low ≡ code high = sym (code_told (get_or keys r.0 0) here) ∙ r.2 ∙ code_told (get_or keys (r.0 + 1) 0) next in
        let less : low < high = id_less room (get_or keys r.0 0) (get_or keys (r.0 + 1) 0) r.2 (up r.0 r.1) in
        subst (IsRepeatedId pts) (sym r.3) (inside, low, less, apart low high less inside codes)
      where
        r : (n : ℕ) × (n + 1 < length keys) × (get_or keys n 0 / room ≡ get_or keys (n + 1) 0 / room) × (i ≡ get_or keys (n + 1) 0 % room)
        r = told.only i m

    -- so these are the ids of the points that are equal to an earlier one
    pub all_repeats : AreAllRepeats pts ids
    all_repeats = record { has = λ i _ r. repeats i r; only = repeated }

-- the distinct ids are rising ids of distinct points
pub id_set : (pts : List Vector) (ids : List ℕ) → AreDistinctIds pts ids → IsIdSet pts ids
id_set pts ids d =
    let by_order : (i j : ℕ) → (i < j) ⊎ ((j < i) ⊎ (i ≡ j)) = λ i j. grind (arith, nat_tests) in
    record { rising = d.rising; distinct = λ i j mi mj e. same i j mi mj e (by_order i j) }
  where
    same : (i j : ℕ) → In i ids → In j ids → place pts i ≡ place pts j → (i < j) ⊎ ((j < i) ⊎ (i ≡ j)) → i ≡ j
    same i j mi mj e (inl h) = absurd (((d.members j).0 mj).1 i h e)
    same i j mi mj e (inr (inl h)) = absurd (((d.members i).0 mi).1 j h (sym e))
    same i j mi mj e (inr (inr q)) = q
