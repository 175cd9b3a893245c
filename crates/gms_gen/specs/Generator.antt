-- A transport model of any size, made from a seed: the requested numbers of plants and markets,
-- with demands, supplies and costs from a sequence of draws. The sequence is a linear congruential
-- generator (Knuth, "The Art of Computer Programming", volume 2, section 3.2.1); the model is the
-- transport model of the GAMS User's Guide, "A GAMS Tutorial by Richard E. Rosenthal".
use Rattle.std.specs.Prelude.{ℕ, zero, suc, ◌+◌, ◌*◌, ◌/◌, ◌%◌, ◌^◌, List, [], ◌++◌, codes, decimal}

-- ---- draws

-- the first number of the pseudo-random sequence that a seed determines
abbrev pub first_seed : ℕ → ℕ
first_seed seed = seed % 2 ^ 31

-- the number that follows the number `state` in a pseudo-random sequence
abbrev pub next_state : ℕ → ℕ
next_state state = (1103515245 * state + 12345) % 2 ^ 31

-- the number that the pseudo-random sequence of a seed reaches after `n` draws
abbrev pub seed_after : ℕ → ℕ → ℕ
seed_after seed zero = first_seed seed
seed_after seed (suc n) = next_state (seed_after seed n)

-- the draw that the number `state` of a sequence gives: at least 0 and less than `below`
abbrev pub drawn_by : ℕ → ℕ → ℕ
drawn_by state below = (state / 65536) % below

-- the draw with the seed `seed` after `n` other draws: a number that is at least 0 and less than
-- `below`
abbrev pub drawn : ℕ → ℕ → ℕ → ℕ
drawn seed n below = drawn_by (seed_after seed (suc n)) below

-- ---- lines

-- the first `n` texts, which `text` gives by their numbers from 0, joined
abbrev pub texts_below : ℕ → (ℕ → List ℕ) → List ℕ
texts_below zero text = []
texts_below (suc n) text = texts_below n text ++ text n

-- the sum of the first `n` numbers, which `number` gives by their positions from 0
abbrev pub sum_below : ℕ → (ℕ → ℕ) → ℕ
sum_below zero number = 0
sum_below (suc n) number = sum_below n number + number n

-- a text as a line: with a line feed at its end
abbrev pub text_line : List ℕ → List ℕ
text_line text = text ++ codes "\n"

-- the name of the element n, counted from 0: a letter and n + 1
abbrev pub element : List ℕ → ℕ → List ℕ
element letter n = letter ++ decimal (n + 1)

-- a line of data: an element and its value
abbrev pub datum : List ℕ → ℕ → List ℕ
datum element value = text_line (element ++ codes " " ++ decimal value)

-- The model of this seed, these plants and these markets.
module _ (seed plants markets : ℕ) where
  -- the demand of a market, counted from 0: a draw from 10 to 99
  abbrev pub demand : ℕ → ℕ
  demand market = 10 + drawn seed market 90

  -- the sum of the demands of all markets
  abbrev pub total_demand : ℕ
  total_demand = sum_below markets demand

  -- the supply of a plant, counted from 0: the total demand divided by the number of plants,
  -- rounded down, plus a draw from 1 to 10
  abbrev pub supply : ℕ → ℕ
  supply plant = total_demand / plants + 1 + drawn seed (markets + plant) 10

  -- the cost of the route from a plant to a market, both counted from 0: a draw from 1 to 50
  abbrev pub cost : ℕ → ℕ → ℕ
  cost plant market = 1 + drawn seed (markets + plants + plant * markets + market) 50

  -- the lines that declare the sets of plants and of markets
  abbrev pub set_lines : List ℕ
  set_lines = text_line (codes "set p /p1*p" ++ decimal plants ++ codes "/;") ++ text_line (codes "set m /m1*m" ++ decimal markets ++ codes "/;")

  abbrev pub demand_lines : List ℕ
  demand_lines = texts_below markets (λ market. datum (element (codes "m") market) (demand market))

  abbrev pub supply_lines : List ℕ
  supply_lines = texts_below plants (λ plant. datum (element (codes "p") plant) (supply plant))

  -- the lines with the costs of the routes from a plant to each market
  abbrev pub costs_from : ℕ → List ℕ
  costs_from plant = texts_below markets (λ market. datum (element (codes "p") plant ++ codes "." ++ element (codes "m") market) (cost plant market))

  abbrev pub transport_cost_lines : List ℕ
  transport_cost_lines = texts_below plants costs_from

  -- the lines of the variables, the equations, the model, the options and the solve
  abbrev pub model_lines : List ℕ
  model_lines =
      text_line (codes "positive variable x(p,m); variable z;") ++ text_line (codes "equations cost, supply(p), demand(m);") ++ text_line (codes "cost.. z =e= sum((p,m), c(p,m)*x(p,m));") ++ text_line (codes "supply(p).. sum(m, x(p,m)) =l= a(p);") ++ text_line (codes "demand(m).. sum(p, x(p,m)) =g= b(m);") ++ text_line (codes "model t /all/;") ++ text_line (codes "option iterlim = 100000, limrow = 0, limcol = 0;") ++ text_line (codes "solve t using lp minimizing z;")

  -- the source text of the model
  abbrev pub generated_model_text : List ℕ
  generated_model_text =
      set_lines ++ text_line (codes "parameter b(m) /") ++ demand_lines ++ text_line (codes "/;") ++ text_line (codes "parameter a(p) /") ++ supply_lines ++ text_line (codes "/;") ++ text_line (codes "parameter c(p,m) /") ++ transport_cost_lines ++ text_line (codes "/;") ++ model_lines
