-- The ids of points that are equal to an earlier one, for each of the two keys: the number of the place, and a hash of it.
use Rattle.std.proofs.Common.{◌≡◌, ℕ, ◌+◌, ◌-◌, ◌%◌, ◌/◌, ◌<◌, ◌≤◌, ◌⊎◌, inl, inr, List, length, get_or, arith, ap, sym, subst, ◌∙◌, IsPermutation}
use Rattle.std.{proofs.lemmas.Bool.cases_lt, specs.List.All, specs.List.Sorted.IsNonDecreasing}
use Rattle.qh_model.proofs.Members.{All-In, In-get_or}
use Rattle.qh_model.specs.{declared.limits.TheConstants.POINT_LIMIT, headline.Predicates.place, headline.Sets.In, headline.Vector.Vector}
use Rattle.qh_plane.proofs.DistinctLists.{AreSortedKeys, StandsAt, all_in, in_all, rises_each, all_within, index_in, up, position, stands_before, all_repeats}
use Rattle.qh_plane.specs.declared.hashed_keys.TheConstants.{ID_ROOM}
use Rattle.qh_plane.specs.steps.HashedKeys.{place_hash, hash_at, Hashes, WithHashes, AreKeysBelow, AreHashedKeys, IsRepeat, RepeatsTold}
use Rattle.qh_plane.specs.steps.{PlaceKeys.ArePlaceKeys, PlaceKeys.ArePlaceRepeats, Repeats.IsRepeatedId, Repeats.AreRepeats, Repeats.AreAllRepeats}
use Rattle.qh_polygon.{proofs.PlaceOrder.place_code-same, specs.contract.PlaceKeys.HasKey}
use Rattle.qh_polygon.specs.{contract.PlaceNumbers.place_code, contract.PlaceNumbers.place_key, declared.place_keys.TheConstants.ROOM}

-- ---- by the number of the place
module _ (pts : List Vector) (keys : List ℕ) (k : ArePlaceKeys pts keys) (rising : IsNonDecreasing keys) where
  abbrev code : ℕ → ℕ
  code i = place_code (place pts i)

  known_at : (i : ℕ) → i < length pts → HasKey pts i
  known_at i h = All-In (HasKey pts) k.ids i k.known (all_in (length pts) k.ids k.all i h)

  sorted : AreSortedKeys pts ROOM code keys
  unfolding place_key
  sorted = record {
    ids = k.ids;
    up = rises_each (length pts) k.ids k.all;
    inside = in_all (length pts) k.ids k.all;
    same = k.same;
    rising = rising;
    small = λ i h. (known_at i h).small;
    equal = λ i j e. ap place_code e;
  }

  -- the ids of the keys that have the place of the key before are those of the points that are equal to an earlier one
  pub place_repeats : (ids : List ℕ) → ArePlaceRepeats ROOM keys (length keys) ids → AreAllRepeats pts ids
  unfolding sorted
  place_repeats ids told =
      all_repeats pts ROOM code keys sorted (all_in (length pts) k.ids k.all)
      (λ i j l h e. place_code-same _ _ (known_at i (omega (arith, l, h))).place_in (known_at j h).place_in e) ids told

-- ---- by a hash of the place
module _ (pts : List Vector) (some : Hashes) (keys : List ℕ) (few : length pts ≤ POINT_LIMIT) (k : AreHashedKeys pts some keys)
    (rising : IsNonDecreasing keys) where
  abbrev hash : ℕ → ℕ
  hash = hash_at pts

  fits : (n i : ℕ) → n ≤ POINT_LIMIT → i < n → i < ID_ROOM
  fits n i h l = omega (arith, h, l)

  hashed : AreSortedKeys pts ID_ROOM hash keys
  hashed = record {
    ids = k.known.ids;
    up = k.known.rising;
    inside = k.known.below;
    same = subst (λ v. IsPermutation v keys) k.known.are k.same;
    rising = rising;
    small = λ i h. fits (length pts) i few h;
    equal = λ i j e. ap place_hash e;
  }

  -- the ids in the keys are indices
  pub hashes_within : All (λ x. x % ID_ROOM < length pts) keys
  hashes_within = all_within pts ID_ROOM hash keys hashed

  -- the key at a position
  abbrev key : ℕ → ℕ
  key n = get_or keys n 0

  module _ (ids : List ℕ) (told : RepeatsTold pts keys (length keys) ids) where
    -- the key of an id with a lower one of its place repeats the key before
    repeats : (i : ℕ) → some (hash i) → IsRepeatedId pts i → In i ids
    unfolding hashed
    repeats i some_of r = subst (λ v. In v ids) q.1.id_told (by_cases (cases_lt (p.0 + 1) q.0))
      where
        lt : i < length pts
        lt = r.0

        j : ℕ
        j = r.1

        lower : j < i
        lower = r.2

        same_hash : hash j ≡ hash i
        same_hash = ap place_hash r.3

        q : (n : ℕ) × StandsAt ID_ROOM hash keys i n
        q = position pts ID_ROOM hash keys hashed i (k.known.has i (omega arith) lt some_of)

        p : (n : ℕ) × StandsAt ID_ROOM hash keys j n
        p = position pts ID_ROOM hash keys hashed j (k.known.has j (omega arith) (omega (arith, lower, lt)) (subst some (sym same_hash) some_of))

        same : key p.0 / ID_ROOM ≡ key q.0 / ID_ROOM
        same = p.1.place_told ∙ same_hash ∙ sym q.1.place_told

        before : p.0 < q.0
        before = stands_before pts ID_ROOM hash keys hashed j i p.0 q.0 lower same_hash p.1 q.1

        third : (t : ℕ) → p.0 ≤ t → t + 2 < length keys → key p.0 / ID_ROOM ≡ key (t + 2) / ID_ROOM → In (key (t + 2) % ID_ROOM) ids
        third t g w s =
            let next : t + 1 + 1 ≡ t + 2 = omega arith in
            let pinch : (x y z : ℕ) → x ≤ y → y ≤ z → x / ID_ROOM ≡ z / ID_ROOM → y / ID_ROOM ≡ z / ID_ROOM = λ x y z a b c. omega (arith, a, b, c) in
            subst (λ n. In (key n % ID_ROOM) ids) next
            (told.listed.has (t + 1) (omega (arith, w)) (omega (arith, w)) (subst (λ n. IsRepeat pts (key (t + 1)) (key n)) (sym next) (told.tells t w w
            (pinch (key p.0) (key t) (key (t + 2)) (rising p.0 t 0 g (omega (arith, w))) (rising t (t + 2) 0 (omega arith) w) s))))

        by_cases : (p.0 + 1 < q.0) ⊎ (q.0 ≤ p.0 + 1) → In (key q.0 % ID_ROOM) ids
        by_cases (inr g) = subst (λ n. In (key n % ID_ROOM) ids) one (told.listed.has p.0 within within (adjacent p.0 one))
          where
            one : p.0 + 1 ≡ q.0
            one = omega (arith, before, g)

            within : p.0 + 1 < length keys
            within = subst (λ n. n < length keys) (sym one) q.1.within

            adjacent : (n : ℕ) → n + 1 ≡ q.0 → IsRepeat pts (key p.0) (key (n + 1))
            adjacent n e = subst (λ m. IsRepeat pts (key p.0) (key m)) (sym e)
                (same, ap (place pts) p.1.id_told ∙ r.3 ∙ ap (place pts) (sym q.1.id_told))
        by_cases (inl g) =
            let two : q.0 - 2 + 2 ≡ q.0 = omega (arith, g) in
            subst (λ n. In (key n % ID_ROOM) ids) two (third (q.0 - 2) (omega (arith, g)) (subst (λ n. n < length keys) (sym two) q.1.within)
            (subst (λ n. key p.0 / ID_ROOM ≡ key n / ID_ROOM) (sym two) same))

    -- a key that repeats the key before belongs to a repeated id
    repeated : (i : ℕ) → In i ids → IsRepeatedId pts i
    repeated i m =
        let r : (j : ℕ) × (j + 1 < length keys) × IsRepeat pts (key j) (key (j + 1)) × (i ≡ key (j + 1) % ID_ROOM) = told.listed.only i m in
        let lt : key (r.0 + 1) % ID_ROOM < length pts = index_in pts ID_ROOM hash keys hashed (key (r.0 + 1)) (In-get_or keys (r.0 + 1) 0 r.1) in
        let rises : key r.0 < key (r.0 + 1) = up pts ID_ROOM hash keys hashed r.0 r.1 in
        let lower : (x y : ℕ) → x < y → x / ID_ROOM ≡ y / ID_ROOM → x % ID_ROOM < y % ID_ROOM = λ x y a b. omega (arith, a, b) in
        subst (IsRepeatedId pts) (sym r.3) (lt, key r.0 % ID_ROOM, lower (key r.0) (key (r.0 + 1)) rises r.2.0, r.2.1)

    -- so these are the ids of the points that are equal to an earlier one
    pub repeats_are : AreRepeats pts (WithHashes pts some) ids
    repeats_are = record { has = repeats; only = repeated }

-- the keys of some hashes, after they are sorted
module _ (pts : List Vector) (some : Hashes) (given keys : List ℕ) (few : length pts ≤ POINT_LIMIT)
    (known : AreKeysBelow pts some (length pts) given) (same : IsPermutation given keys) (rising : IsNonDecreasing keys) where
  hashed_keys : AreHashedKeys pts some keys
  hashed_keys = record { given = given; known = known; same = same }

  -- the ids in them are indices
  pub sorted_within : (read : List ℕ) → read ≡ keys → All (λ x. x % ID_ROOM < length pts) read
  sorted_within read e = subst (All (λ x. x % ID_ROOM < length pts)) (sym e) (hashes_within pts some keys few hashed_keys rising)

  -- the ids found are those of the points that are equal to an earlier one
  pub sorted_repeats : (read : List ℕ) → read ≡ keys → (ids : List ℕ) → RepeatsTold pts read (length read) ids → AreRepeats pts (WithHashes pts some) ids
  sorted_repeats read e ids told = repeats_are pts some keys few hashed_keys rising ids (subst (λ v. RepeatsTold pts v (length v) ids) e told)
