-- Borrowed parameters as parameters.
use Rattle.suit_params.specs.declared.param.Param.{Param}
use Rattle.suit_params.specs.declared.param.Param.TheVariants as params
use Rattle.suit_params.specs.declared.param_slice.ParamSlice.{ParamSlice}
use Rattle.suit_params.specs.declared.param_slice.ParamSlice.TheVariants as slices

-- the parameter that is borrowed
abbrev pub param_of : ParamSlice → Param
param_of (slices.Vendor id) = params.Vendor id
param_of (slices.Class id) = params.Class id
param_of (slices.Device id) = params.Device id
param_of (slices.Digest digest) = params.Digest digest
param_of (slices.Slot number) = params.Slot number
param_of (slices.Strict value) = params.Strict value
param_of (slices.Soft value) = params.Soft value
param_of (slices.Size size) = params.Size size
param_of (slices.Content bytes) = params.Content bytes.now
param_of (slices.Uri text) = params.Uri text.now
param_of (slices.Source component) = params.Source component
param_of (slices.Args bytes) = params.Args bytes.now
