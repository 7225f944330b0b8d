-- The published voltage assignment problem, in its own variables. Assumes nothing.
use Rattle.std.specs.Prelude.{◌≡◌, ℕ, ◌+◌, ◌*◌, ◌<◌, ◌≤◌, if◌then◌else◌, ◌⊎◌, List, [], ◌∷◌, map, length, ◌==◌, ◌≢◌, nat_le, slice_index, slice_index_or}
use Rattle.netlist.specs.declared.parts.Choice.{Choice}
use Rattle.netlist.specs.Netlist.{Netlist, modules}
use Rattle.netlist.specs.Rules.{menu, net}
use Rattle.netlist.specs.Slots.{standing}
use Rattle.std.specs.List.{range_with_len, AllByRecursion}
use Rattle.timing.specs.Assignments.{Assigns}
use Rattle.timing.specs.Paths.{Meets}
use Rattle.timing.specs.Sums.{sum_below}

-- the sum over q of x_q u(q)
abbrev pub weighed : List ℕ → List ℕ → ℕ
weighed [] us = 0
weighed (x ∷ xs) [] = 0
weighed (x ∷ xs) (u ∷ us) = x * u + weighed xs us

abbrev pub total : List ℕ → ℕ
total [] = 0
total (u ∷ us) = u + total us

-- u: for each module i the variables u_i(1), u_i(2), .., one for each choice of its menu
abbrev pub Selection : Type 0
Selection = List (List ℕ)

abbrev pub Binary : ℕ → Type 0
Binary x = (x ≡ 0) ⊎ (x ≡ 1)

-- u_i(q) is 1 where choice q stands for the supply s that module i has, else 0
abbrev pub chosen : ℕ → ℕ → ℕ
chosen s q = (if q == s then 1 else 0)

-- The graph with the virtual module, which feeds all modules without incoming nets and is fed by all without outgoing
-- ones.
pub data Vertex : Type 0 where
  virtual : Vertex
  real : ℕ → Vertex

-- into module i from the virtual one, along net e, and from module i to the virtual one
pub data Edge : Type 0 where
  enter : ℕ → Edge
  along : ℕ → Edge
  leave : ℕ → Edge

module _ (n : Netlist) where
  -- the choices q of module i: v_i(q), d_i(q), p_i(q), and the number of the supply that each stands for
  abbrev pub offers : ℕ → List Choice
  offers i = standing (menu n i).map 0 (menu n i).values

  abbrev pub voltages : ℕ → List ℕ
  voltages i = standing (menu n i).map 0 n.supplies.values

  abbrev pub delays : ℕ → List ℕ
  delays i = map (λ (c : Choice). c.delay) (offers i)

  abbrev pub powers : ℕ → List ℕ
  powers i = map (λ (c : Choice). c.power) (offers i)

  abbrev pub numbers : ℕ → List ℕ
  numbers i = standing (menu n i).map 0 (range_with_len 0 8)

  -- where an edge begins and ends
  abbrev pub tail : Edge → Vertex
  tail (enter i) = virtual
  tail (along e) = real (net n e).driver
  tail (leave i) = real i

  abbrev pub head : Edge → Vertex
  head (enter i) = real i
  head (along e) = real (net n e).receiver
  head (leave i) = virtual

  -- only modules without incoming nets are entered, and only those without outgoing nets are left
  abbrev pub InGraph : Edge → Type 0
  InGraph (enter i) = (i < modules n) × ((e : ℕ) → e < length n.nets → (net n e).receiver ≢ i)
  InGraph (along e) = e < length n.nets
  InGraph (leave i) = (i < modules n) × ((e : ℕ) → e < length n.nets → (net n e).driver ≢ i)

  -- each edge begins where the one before it ends
  abbrev pub Joined : Vertex → List Edge → Vertex → Type 0
  Joined from [] to = from ≡ to
  Joined from (e ∷ es) to = InGraph e × (tail e ≡ from) × Joined (head e) es to

  -- no vertex is passed twice
  abbrev pub Apart : List Edge → Type 0
  Apart [] = Unit {0}
  Apart (e ∷ es) = AllByRecursion (λ f. tail f ≢ tail e) es × Apart es

  -- a cycle ends where it begins
  abbrev pub Cycle : List Edge → Type 0
  Cycle [] = ⊥
  Cycle (e ∷ es) = Joined (tail e) (e ∷ es) (tail e) × Apart (e ∷ es)

  -- what module i has under u
  module _ (u : Selection) where
    abbrev pub voltage_at : ℕ → ℕ
    voltage_at i = weighed (voltages i) (slice_index_or u i [])

    abbrev pub delay_at : ℕ → ℕ
    delay_at i = weighed (delays i) (slice_index_or u i [])

    abbrev pub power_at : ℕ → ℕ
    power_at i = weighed (powers i) (slice_index_or u i [])

    -- LS(i, j): no level shifter where the driver's voltage is at least the receiver's
    abbrev pub ls : ℕ → ℕ → ℕ
    ls i j = (if nat_le (voltage_at j) (voltage_at i) then 0 else 1)

    abbrev pub shifter_on : ℕ → ℕ
    shifter_on e = ls (net n e).driver (net n e).receiver

    -- what is minimised: the power of all modules, and of all level shifters
    abbrev pub objective : ℕ
    objective = sum_below (modules n) power_at + sum_below (length n.nets) (λ e. shifter_on e * n.terms.shifter.power)

    -- each module works at exactly one of its choices
    pub record Selects : Type 0 where
      pub one_each : length u ≡ modules n
      pub as_many : (i : ℕ) → i < modules n → length (slice_index_or u i []) ≡ length (offers i)
      pub binary : (i : ℕ) → i < modules n → AllByRecursion Binary (slice_index_or u i [])
      pub exactly_one : (i : ℕ) → i < modules n → total (slice_index_or u i []) ≡ 1

    -- what an edge adds: the delay of the module that it leaves, and of its shifter and its wire; the virtual module
    -- has no delay, and the edges at it have neither shifter nor wire
    abbrev pub from_delay : Vertex → ℕ
    from_delay virtual = 0
    from_delay (real i) = delay_at i

    abbrev pub level_shifter : Edge → ℕ
    level_shifter (enter i) = 0
    level_shifter (along e) = shifter_on e
    level_shifter (leave i) = 0

    abbrev pub wire : Edge → ℕ
    wire (enter i) = 0
    wire (along e) = (net n e).wire
    wire (leave i) = 0

    abbrev pub cycle_delay : List Edge → ℕ
    cycle_delay [] = 0
    cycle_delay (e ∷ es) = from_delay (tail e) + n.terms.shifter.delay * level_shifter e + wire e + cycle_delay es

    -- the timing constraint, for every cycle
    abbrev pub InTime : Type 0
    InTime = (c : List Edge) → Cycle c → cycle_delay c ≤ n.terms.cycle

    abbrev pub Feasible : Type 0
    Feasible = Selects × InTime

  -- u of an assignment
  abbrev pub selected : List ℕ → ℕ → List ℕ
  selected a i = map (chosen (slice_index a i)) (numbers i)

  abbrev pub selection_of : List ℕ → Selection
  selection_of a = map (selected a) (range_with_len 0 (modules n))

  -- and back: the number of the choice at which each module works
  abbrev pub assignment_of : Selection → List ℕ
  assignment_of u = map (λ i. weighed (numbers i) (slice_index_or u i [])) (range_with_len 0 (modules n))

  -- Assignments and selections correspond one to one, each to its own, and those that meet the cycle to the feasible.
  pub record OneToOne : Type 0 where
    pub selects : (a : List ℕ) → Assigns n a → Selects (selection_of a)
    pub assigns : (u : Selection) → Selects u → Assigns n (assignment_of u)
    pub there_and_back : (a : List ℕ) → Assigns n a → assignment_of (selection_of a) ≡ a
    pub back_and_there : (u : Selection) → Selects u → selection_of (assignment_of u) ≡ u
    pub feasible : (a : List ℕ) → Assigns n a → Meets n a → Feasible (selection_of a)
    pub meets : (u : Selection) → Feasible u → Meets n (assignment_of u)
